-- A block and a tipset, one after another.
use Rattle.std.proofs.Common.{◌≡◌, ℕ, List, Result, Ok, Err, refl, sym, ap, subst, ◌∙◌}
use Rattle.fil_base.specs.Failure.{IfFault}
use Rattle.fil_base.specs.declared.failure.Failure.{Failure}
use Rattle.fil_base.specs.declared.failure.Failure.TheVariants.{Fault, NoMemory}
use Rattle.dag_cbor.specs.declared.value.Value.{Value}
use Rattle.cbor_fields.specs.declared.field_fault.FieldFault.{FieldFault}
use Rattle.fil_message.specs.declared.message.Message.{Message}
use Rattle.fil_message.specs.declared.tipset.TipBlock.{TipBlock}
use Rattle.fil_message.specs.declared.tipset.Tipset.{Tipset}
use Rattle.fil_message.specs.Readers.{if_read}
use Rattle.fil_message.proofs.ReadSteps.{then_fault, then_read}
use Rattle.scenario_form.specs.Reading.{BlockFields, FormFault, ScenarioFields, TipsetFields, block_at, block_fields, block_read, each_read, message_read, failed_at, nowhere, read_at, scenario_fields, scenario_read, tipset_at, tipset_fields, tipset_read}
use Rattle.scenario_form.specs.declared.place.Place.{Place}
use Rattle.scenario_form.specs.declared.raw.RawScenario.{RawScenario}

placed_fault : {A : Type 0} (place : Place) (r : Result A FieldFault) (fault : FieldFault) → r ≡ Err fault → read_at place r ≡ Err (place, fault)
placed_fault place r fault is = ap (read_at place) is

placed_found : {A : Type 0} (place : Place) (r : Result A FieldFault) (x : A) → r ≡ Ok x → read_at place r ≡ Ok x
placed_found place r x is = ap (read_at place) is

-- a failure of a field, passed on with its place
failed_so : {A B : Type 0} (place : Place) (r : Result A FieldFault) (g : A → Result B FormFault) (failure : Failure FieldFault) → IfFault failure (λ fault. r ≡ Err fault) → IfFault (failed_at place failure) (λ fault. if_read (read_at place r) g ≡ Err fault)
failed_so place r g NoMemory is = tt
failed_so place r g (Fault fault) is = then_fault (read_at place r) g (place, fault) (placed_fault place r fault is)

passed_on : {A B : Type 0} (own place : Place) (r : Result A FieldFault) (g : A → Result B FormFault) (failure : Failure FieldFault) (made : Failure FormFault) → IfFault failure (λ fault. r ≡ Err fault) → made ≡ failed_at own failure → own ≡ place
    → IfFault made (λ fault. if_read (read_at place r) g ≡ Err fault)
passed_on own place r g failure made is made_is same =
    subst (λ (m : Failure FormFault). IfFault m (λ fault. if_read (read_at place r) g ≡ Err fault)) (sym (made_is ∙ ap (λ (p : Place). failed_at p failure) same)) (failed_so place r g failure is)

-- ---- a block

pub block_refused : (t b : ℕ) (value : Value) (own : Place) (failure : Failure FieldFault) (made : Failure FormFault) → IfFault failure (λ fault. block_fields value ≡ Err fault) → made ≡ failed_at own failure → own ≡ block_at t b
    → IfFault made (λ fault. block_read t b value ≡ Err fault)
unfolding block_read
block_refused t b value own failure made is made_is same = passed_on own (block_at t b) (block_fields value) _ failure made is made_is same

pub messages_refused : (t b : ℕ) (value : Value) (f : BlockFields) (fault : FormFault) → block_fields value ≡ Ok f → each_read (message_read t b) 0 f.messages ≡ Err fault → block_read t b value ≡ Err fault
unfolding block_read
messages_refused t b value f fault is refused =
    then_read _ _ f (Err fault) (placed_found (block_at t b) (block_fields value) f is) (then_fault (each_read (message_read t b) 0 f.messages) _ fault refused)

pub block_found : (t b : ℕ) (value : Value) (f : BlockFields) (messages : List Message) → block_fields value ≡ Ok f → each_read (message_read t b) 0 f.messages ≡ Ok messages
    → block_read t b value ≡ Ok (record { miner = f.miner; award = f.award; messages = messages })
unfolding block_read
block_found t b value f messages is read =
    let whole : Result TipBlock FormFault = Ok (record { miner = f.miner; award = f.award; messages = messages }) in
    then_read _ _ f whole (placed_found (block_at t b) (block_fields value) f is) (then_read (each_read (message_read t b) 0 f.messages) _ messages whole read refl)

-- ---- a tipset

pub tipset_refused : (t : ℕ) (value : Value) (own : Place) (failure : Failure FieldFault) (made : Failure FormFault) → IfFault failure (λ fault. tipset_fields value ≡ Err fault) → made ≡ failed_at own failure → own ≡ tipset_at t
    → IfFault made (λ fault. tipset_read t value ≡ Err fault)
unfolding tipset_read
tipset_refused t value own failure made is made_is same = passed_on own (tipset_at t) (tipset_fields value) _ failure made is made_is same

pub blocks_refused : (t : ℕ) (value : Value) (f : TipsetFields) (fault : FormFault) → tipset_fields value ≡ Ok f → each_read (block_read t) 0 f.blocks ≡ Err fault → tipset_read t value ≡ Err fault
unfolding tipset_read
blocks_refused t value f fault is refused =
    then_read _ _ f (Err fault) (placed_found (tipset_at t) (tipset_fields value) f is) (then_fault (each_read (block_read t) 0 f.blocks) _ fault refused)

pub tipset_found : (t : ℕ) (value : Value) (f : TipsetFields) (blocks : List TipBlock) → tipset_fields value ≡ Ok f → each_read (block_read t) 0 f.blocks ≡ Ok blocks
    → tipset_read t value ≡ Ok (record { epoch = f.epoch; base_fee = f.base_fee; root = f.root; blocks = blocks })
unfolding tipset_read
tipset_found t value f blocks is read =
    let whole : Result Tipset FormFault = Ok (record { epoch = f.epoch; base_fee = f.base_fee; root = f.root; blocks = blocks }) in
    then_read _ _ f whole (placed_found (tipset_at t) (tipset_fields value) f is) (then_read (each_read (block_read t) 0 f.blocks) _ blocks whole read refl)

-- ---- the whole

pub scenario_refused : (value : Value) (own : Place) (failure : Failure FieldFault) (made : Failure FormFault) → IfFault failure (λ fault. scenario_fields value ≡ Err fault) → made ≡ failed_at own failure → own ≡ nowhere
    → IfFault made (λ fault. scenario_read value ≡ Err fault)
unfolding scenario_read
scenario_refused value own failure made is made_is same = passed_on own nowhere (scenario_fields value) _ failure made is made_is same

pub tipset_of_it_refused : (value : Value) (f : ScenarioFields) (fault : FormFault) → scenario_fields value ≡ Ok f → each_read tipset_read 0 f.tipsets ≡ Err fault → scenario_read value ≡ Err fault
unfolding scenario_read
tipset_of_it_refused value f fault is refused =
    then_read _ _ f (Err fault) (placed_found nowhere (scenario_fields value) f is) (then_fault (each_read tipset_read 0 f.tipsets) _ fault refused)

pub scenario_found : (value : Value) (f : ScenarioFields) (tipsets : List Tipset) → scenario_fields value ≡ Ok f → each_read tipset_read 0 f.tipsets ≡ Ok tipsets
    → scenario_read value ≡ Ok (record { rules = f.rules; tipsets = tipsets })
unfolding scenario_read
scenario_found value f tipsets is read =
    let whole : Result RawScenario FormFault = Ok (record { rules = f.rules; tipsets = tipsets }) in
    then_read _ _ f whole (placed_found nowhere (scenario_fields value) f is) (then_read (each_read tipset_read 0 f.tipsets) _ tipsets whole read refl)
