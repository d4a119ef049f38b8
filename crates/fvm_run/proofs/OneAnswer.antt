-- An input has one answer at most.
use Rattle.std.proofs.Common.{◌≡◌, ◌⊎◌, ℕ, ◌<◌, ◌≤◌, inl, inr, List, [], ◌++◌, Option, None, Some, Result, Ok, Err, length, refl, sym, ap, subst, ◌∙◌, arith}
use Rattle.block_base.specs.Base.{base_of}
use Rattle.car_file.specs.Car.{car}
use Rattle.car_file.specs.CarFault.{IsCarFault}
use Rattle.car_file.specs.declared.fault.CarFault.{CarFault}
use Rattle.car_file.proofs.Archives.{archive_has_no_fault, one_car, one_fault as one_car_fault}
use Rattle.cid_core.specs.BlockParts.{BlockParts}
use Rattle.dag_cbor.specs.declared.value.Value.{Value}
use Rattle.dag_cbor.specs.declared.fault.CborFault.{CborFault}
use Rattle.dag_cbor.specs.Faults.{IsFault}
use Rattle.dag_cbor.proofs.OneFault.{one_fault, nothing_spelled}
use Rattle.dag_cbor.proofs.OneSpelling.{one_spelling}
use Rattle.fil_base.specs.CidParts.{CidParts}
use Rattle.fil_message.specs.declared.form0.Form0.{Form0}
use Rattle.fil_message.specs.declared.form_fault.FormFault.{FormFault}
use Rattle.fil_message.specs.declared.tipset.Tipset.{Tipset}
use Rattle.fil_message.specs.Form0Layout.{form_value}
use Rattle.fil_message.specs.Form0Reading.{form0_of}
use Rattle.fil_message.proofs.Form0Laws.{form_again}
use Rattle.gas_prices.specs.declared.rules.Rules.{Rules}
use Rattle.report_text.specs.Form0Text.{form0_text}
use Rattle.report_text.specs.Text.{reports_text}
use Rattle.scenario_form.specs.Answer.{IsScenario, IsScenarioFault}
use Rattle.scenario_form.specs.declared.fault.ScenarioFault.{ScenarioFault}
use Rattle.scenario_form.specs.declared.scenario.Scenario.{Scenario}
use Rattle.state_model.specs.State.{State}
use Rattle.tipset_exec.specs.Report.{report_of}
use Rattle.wasm_check.specs.Validity.{IsFirstFault, IsValid}
use Rattle.wasm_check.specs.declared.fault.CheckFault.{CheckFault}
use Rattle.wasm_decode.specs.Modules.{SpellsModule}
use Rattle.wasm_decode.specs.ReadingModule.{decoded}
use Rattle.wasm_decode.specs.declared.fault.WasmFault.{WasmFault}
use Rattle.wasm_types.specs.declared.raw_module.RawModule.{RawModule}
use Rattle.fvm_run.specs.declared.command.Command.{Command}
use Rattle.fvm_run.specs.declared.command.Command.TheVariants.{Run, Check}
use Rattle.fvm_run.specs.declared.input.TheConstants.{INPUT_LIMIT}
use Rattle.fvm_run.specs.declared.refusal.Refusal.{Refusal}
use Rattle.fvm_run.specs.declared.refusal.Refusal.TheVariants as refusal
use Rattle.fvm_run.specs.Answers.{BeginsAsList, IsAnswer, IsAnswerWithin, IsCheckAnswer, IsRunAnswer, Spells}
use Rattle.fvm_run.specs.Modules.{counts_line, counts_of}
use Rattle.fvm_run.specs.Cars.{HaveStates, IsLoaded, first_not_built, reports_on}
use Rattle.fvm_run.proofs.States.{same_states}

abbrev Answer : Type 0
Answer = Result (List ℕ) Refusal

-- ---- account lists

-- an input spells one value at most
one_value : (input : List ℕ) (x y : Value) → Spells input x → Spells input y → x ≡ y
one_value input x y spells_x spells_y =
    (one_spelling x y [] [] spells_x.plain spells_y.plain (ap (λ t. t ++ []) (sym spells_x.bytes ∙ spells_y.bytes))).0

-- the answer to a value
abbrev list_answer : Result Form0 FormFault → Answer
list_answer (Ok form) = Ok (form0_text (report_of form))
list_answer (Err fault) = Err (refusal.Form fault)

-- the answer to an account list: its fault as DAG-CBOR, or that of the value that it spells
abbrev IsListAnswer : List ℕ → Answer → Type 0
IsListAnswer input a =
    ((fault : CborFault) × IsFault input fault × (a ≡ Err (refusal.Cbor fault)))
    ⊎ ((value : Value) × Spells input value × (a ≡ list_answer (form0_of value)))

one_list_answer : (input : List ℕ) (a b : Answer) → IsListAnswer input a → IsListAnswer input b → a ≡ b
one_list_answer input a b (inl (f, is, at)) (inl (g, is', at')) =
    at ∙ (ap (λ fault. Err (refusal.Cbor fault)) (one_fault input f g is is') ∙ sym at')
one_list_answer input a b (inl (f, is, at)) (inr (value, spells, at')) = absurd (nothing_spelled input f is value spells.plain spells.bytes)
one_list_answer input a b (inr (value, spells, at)) (inl (f, is, at')) = absurd (nothing_spelled input f is value spells.plain spells.bytes)
one_list_answer input a b (inr (x, spells, at)) (inr (y, spells', at')) =
    at ∙ (ap (λ value. list_answer (form0_of value)) (one_value input x y spells spells') ∙ sym at')

-- ---- scenarios

-- blocks and a root have one scenario or one fault
pub record ScenarioLaws : Type 0 where
  pub one : (blocks : List BlockParts) (root : CidParts) (a b : Scenario) → IsScenario blocks root a → IsScenario blocks root b → a ≡ b
  pub accepted : (blocks : List BlockParts) (root : CidParts) (s : Scenario) (fault : ScenarioFault) → IsScenario blocks root s → IsScenarioFault blocks root fault → ⊥
  pub one_fault : (blocks : List BlockParts) (root : CidParts) (a b : ScenarioFault) → IsScenarioFault blocks root a → IsScenarioFault blocks root b → a ≡ b

-- the answer to tipsets with their states, of which this one is the first that is not evaluated
abbrev tipsets_answer : List BlockParts → Rules → List (Tipset × State) → Option ℕ → Answer
tipsets_answer blocks rules pairs None = Ok (reports_text (reports_on blocks rules pairs))
tipsets_answer blocks rules pairs (Some n) = Err (refusal.NotBuilt n)

-- the answer to the blocks of a file: their fault, or that to the tipsets of the scenario
abbrev IsBlocksAnswer : List BlockParts → CidParts → Answer → Type 0
IsBlocksAnswer blocks root a =
    ((fault : ScenarioFault) × IsScenarioFault blocks root fault × (a ≡ Err (refusal.Scenario fault)))
    ⊎ ((s : Scenario) × IsScenario blocks root s × (pairs : List (Tipset × State)) × HaveStates blocks s.rules s.tipsets pairs
    × (a ≡ tipsets_answer blocks s.rules pairs (first_not_built 0 pairs)))

one_of_scenarios : (blocks : List BlockParts) (s t : Scenario) (ps qs : List (Tipset × State)) → s ≡ t → HaveStates blocks s.rules s.tipsets ps → HaveStates blocks t.rules t.tipsets qs →
    tipsets_answer blocks s.rules ps (first_not_built 0 ps) ≡ tipsets_answer blocks t.rules qs (first_not_built 0 qs)
one_of_scenarios blocks s t ps qs same have have' =
    let had : HaveStates blocks s.rules s.tipsets qs = subst (λ (u : Scenario). HaveStates blocks u.rules u.tipsets qs) (sym same) have' in
    let pairs : ps ≡ qs = same_states blocks s.rules s.tipsets ps qs have had in
    λ j. tipsets_answer blocks (same j).rules (pairs j) (first_not_built 0 (pairs j))

one_blocks_answer : ScenarioLaws → (blocks : List BlockParts) (root : CidParts) (a b : Answer) → IsBlocksAnswer blocks root a → IsBlocksAnswer blocks root b → a ≡ b
one_blocks_answer laws blocks root a b (inl (f, is, at)) (inl (g, is', at')) =
    at ∙ (ap (λ fault. Err (refusal.Scenario fault)) (laws.one_fault blocks root f g is is') ∙ sym at')
one_blocks_answer laws blocks root a b (inl (f, is, at)) (inr (s, read, qs, have, at')) = absurd (laws.accepted blocks root s f read is)
one_blocks_answer laws blocks root a b (inr (s, read, ps, have, at)) (inl (f, is, at')) = absurd (laws.accepted blocks root s f read is)
one_blocks_answer laws blocks root a b (inr (s, read, ps, have, at)) (inr (t, read', qs, have', at')) =
    at ∙ (one_of_scenarios blocks s t ps qs (laws.one blocks root s t read read') have have' ∙ sym at')

-- ---- CAR files

-- the answer to a CAR file: its fault, or that to its blocks
abbrev IsCarAnswer : List ℕ → Answer → Type 0
IsCarAnswer input a =
    ((fault : CarFault) × IsCarFault input fault × (a ≡ Err (refusal.Car fault)))
    ⊎ ((root : CidParts) × (blocks : List BlockParts) × IsLoaded input root blocks × IsBlocksAnswer blocks root a)

loaded_has_no_fault : (input : List ℕ) (root : CidParts) (blocks : List BlockParts) (fault : CarFault) → IsLoaded input root blocks → IsCarFault input fault → ⊥
loaded_has_no_fault input root blocks fault is faulty =
    archive_has_no_fault root is.blocks fault is.archive (subst (λ bytes. IsCarFault bytes fault) is.bytes faulty)

one_loaded : (input : List ℕ) (r s : CidParts) (x y : List BlockParts) → IsLoaded input r x → IsLoaded input s y → (r ≡ s) × (x ≡ y)
one_loaded input r s x y is is' =
    let same = one_car r s is.blocks is'.blocks is.archive is'.archive (sym is.bytes ∙ is'.bytes) in
    (same.0, is.base ∙ (ap base_of same.1 ∙ sym is'.base))

one_car_answer : ScenarioLaws → (input : List ℕ) (a b : Answer) → IsCarAnswer input a → IsCarAnswer input b → a ≡ b
one_car_answer laws input a b (inl (f, is, at)) (inl (g, is', at')) =
    at ∙ (ap (λ fault. Err (refusal.Car fault)) (one_car_fault input f g is is') ∙ sym at')
one_car_answer laws input a b (inl (f, is, at)) (inr (r, x, loaded, answers)) = absurd (loaded_has_no_fault input r x f loaded is)
one_car_answer laws input a b (inr (r, x, loaded, answers)) (inl (f, is, at)) = absurd (loaded_has_no_fault input r x f loaded is)
one_car_answer laws input a b (inr (r, x, loaded, answers)) (inr (s, y, loaded', answers')) =
    let same = one_loaded input r s x y loaded loaded' in
    one_blocks_answer laws x r a b answers
    (subst (λ blocks. IsBlocksAnswer blocks r b) (sym same.1) (subst (λ root. IsBlocksAnswer y root b) (sym same.0) answers'))

-- ---- modules

-- bytes spell one module or have one fault, and a module has one verdict
pub record ModuleLaws : Type 0 where
  pub one : (bytes : List ℕ) (a b : RawModule) → SpellsModule bytes a → SpellsModule bytes b → a ≡ b
  pub read : (bytes : List ℕ) (raw : RawModule) → SpellsModule bytes raw → decoded bytes ≡ Ok raw
  pub valid : (raw : RawModule) (fault : CheckFault) → IsValid raw → IsFirstFault raw fault → ⊥
  pub one_fault : (raw : RawModule) (f g : CheckFault) → IsFirstFault raw f → IsFirstFault raw g → f ≡ g

-- the answer to a module: the line on it, or its first fault
abbrev IsModuleAnswer : RawModule → Answer → Type 0
IsModuleAnswer raw a =
    (IsValid raw × (a ≡ Ok (counts_line (counts_of raw))))
    ⊎ ((fault : CheckFault) × IsFirstFault raw fault × (a ≡ Err (refusal.Check fault)))

one_module_answer : ModuleLaws → (raw : RawModule) (a b : Answer) → IsModuleAnswer raw a → IsModuleAnswer raw b → a ≡ b
one_module_answer laws raw a b (inl (valid, at)) (inl (valid', at')) = at ∙ sym at'
one_module_answer laws raw a b (inl (valid, at)) (inr (f, is, at')) = absurd (laws.valid raw f valid is)
one_module_answer laws raw a b (inr (f, is, at)) (inl (valid, at')) = absurd (laws.valid raw f valid is)
one_module_answer laws raw a b (inr (f, is, at)) (inr (g, is', at')) =
    at ∙ (ap (λ fault. Err (refusal.Check fault)) (laws.one_fault raw f g is is') ∙ sym at')

-- the answer to bytes: their fault, or that to the module that they spell
abbrev IsBytesAnswer : List ℕ → Answer → Type 0
IsBytesAnswer input a =
    ((fault : WasmFault) × (decoded input ≡ Err fault) × (a ≡ Err (refusal.Wasm fault)))
    ⊎ ((raw : RawModule) × SpellsModule input raw × IsModuleAnswer raw a)

one_wasm_fault : (read : Result RawModule WasmFault) (f g : WasmFault) → read ≡ Err f → read ≡ Err g → f ≡ g
one_wasm_fault read f g is is' = cc

not_both : (read : Result RawModule WasmFault) (raw : RawModule) (f : WasmFault) → read ≡ Ok raw → read ≡ Err f → ⊥
not_both read raw f is is' = cc

one_bytes_answer : ModuleLaws → (input : List ℕ) (a b : Answer) → IsBytesAnswer input a → IsBytesAnswer input b → a ≡ b
one_bytes_answer laws input a b (inl (f, is, at)) (inl (g, is', at')) =
    at ∙ (ap (λ fault. Err (refusal.Wasm fault)) (one_wasm_fault (decoded input) f g is is') ∙ sym at')
one_bytes_answer laws input a b (inl (f, is, at)) (inr (raw, spells, answers)) = absurd (not_both (decoded input) raw f (laws.read input raw spells) is)
one_bytes_answer laws input a b (inr (raw, spells, answers)) (inl (f, is, at)) = absurd (not_both (decoded input) raw f (laws.read input raw spells) is)
one_bytes_answer laws input a b (inr (x, spells, answers)) (inr (y, spells', answers')) =
    one_module_answer laws x a b answers (subst (λ raw. IsModuleAnswer raw b) (sym (laws.one input x y spells spells')) answers')

module_or_fault : (input : List ℕ) (a : Answer) → IsCheckAnswer input a → IsBytesAnswer input a
module_or_fault input (Ok text) (raw, spells, valid, is) = inr (raw, spells, inl (valid, ap Ok is))
module_or_fault input (Err refusal.TooLong) answers = absurd answers
module_or_fault input (Err (refusal.Car fault)) answers = absurd answers
module_or_fault input (Err (refusal.Cbor fault)) answers = absurd answers
module_or_fault input (Err (refusal.Form fault)) answers = absurd answers
module_or_fault input (Err (refusal.Scenario fault)) answers = absurd answers
module_or_fault input (Err (refusal.NotBuilt n)) answers = absurd answers
module_or_fault input (Err (refusal.Wasm fault)) is = inl (fault, is, refl)
module_or_fault input (Err (refusal.Check fault)) (raw, spells, is) = inr (raw, spells, inr (fault, is, refl))

-- ---- all inputs

-- an input that is not too long is an account list or a CAR file, and has the answer to it
list_or_car : (input : List ℕ) (a : Answer) → IsRunAnswer input a → (BeginsAsList input × IsListAnswer input a) ⊎ ((BeginsAsList input → ⊥) × IsCarAnswer input a)
list_or_car input (Ok text) (inl (begins, (form, sound, spells, is))) =
    inl (begins, inr (form_value form, spells, ap Ok is ∙ sym (ap list_answer (form_again form sound))))
list_or_car input (Ok text) (inr (other, (root, blocks, loaded, s, read, (pairs, have, built, is)))) =
    inr (other, inr (root, blocks, loaded, inr (s, read, pairs, have, ap Ok is ∙ sym (ap (tipsets_answer blocks s.rules pairs) built))))
list_or_car input (Err refusal.TooLong) answers = absurd answers
list_or_car input (Err (refusal.Car fault)) (other, is) = inr (other, inl (fault, is, refl))
list_or_car input (Err (refusal.Cbor fault)) (begins, is) = inl (begins, inl (fault, is, refl))
list_or_car input (Err (refusal.Form fault)) (begins, value, spells, is) = inl (begins, inr (value, spells, sym (ap list_answer is)))
list_or_car input (Err (refusal.Scenario fault)) (other, (root, blocks, loaded, is)) = inr (other, inr (root, blocks, loaded, inl (fault, is, refl)))
list_or_car input (Err (refusal.Wasm fault)) answers = absurd answers
list_or_car input (Err (refusal.Check fault)) answers = absurd answers
list_or_car input (Err (refusal.NotBuilt n)) (other, (root, blocks, loaded, s, read, (pairs, have, first))) =
    inr (other, inr (root, blocks, loaded, inr (s, read, pairs, have, sym (ap (tipsets_answer blocks s.rules pairs) first))))

one_run_answer : ScenarioLaws → (input : List ℕ) (a b : Answer) → IsRunAnswer input a → IsRunAnswer input b → a ≡ b
one_run_answer laws input a b answers other =
    elim (list_or_car input a answers) [
      | inl list ↦ elim (list_or_car input b other) [
        | inl list' ↦ one_list_answer input a b list.1 list'.1
        | inr car ↦ absurd (car.0 list.0)
      ]
      | inr car ↦ elim (list_or_car input b other) [
        | inl list ↦ absurd (car.0 list.0)
        | inr car' ↦ one_car_answer laws input a b car.1 car'.1
      ]
    ]

-- a command has one answer to an input that is not too long
one_answer_within : ScenarioLaws → ModuleLaws → (asked : Command) (input : List ℕ) (a b : Answer) → IsAnswerWithin asked input a → IsAnswerWithin asked input b → a ≡ b
one_answer_within scenarios modules Run input a b answers other = one_run_answer scenarios input a b answers other
one_answer_within scenarios modules Check input a b answers other =
    one_bytes_answer modules input a b (module_or_fault input a answers) (module_or_fault input b other)

-- what is not too long has an answer of its own, and what is too long has none but that
within_limit : (asked : Command) (input : List ℕ) (a : Answer) → IsAnswer asked input a →
    ((a ≡ Err refusal.TooLong) × (INPUT_LIMIT < length input)) ⊎ ((length input ≤ INPUT_LIMIT) × IsAnswerWithin asked input a)
within_limit asked input (Ok t) answers = inr answers
within_limit asked input (Err refusal.TooLong) answers = inl (refl, answers)
within_limit asked input (Err (refusal.Car fault)) answers = inr answers
within_limit asked input (Err (refusal.Cbor fault)) answers = inr answers
within_limit asked input (Err (refusal.Form fault)) answers = inr answers
within_limit asked input (Err (refusal.Scenario fault)) answers = inr answers
within_limit asked input (Err (refusal.NotBuilt n)) answers = inr answers
within_limit asked input (Err (refusal.Wasm fault)) answers = inr answers
within_limit asked input (Err (refusal.Check fault)) answers = inr answers

pub one_answer_of : ScenarioLaws → ModuleLaws → (asked : Command) (input : List ℕ) (a b : Answer) → IsAnswer asked input a → IsAnswer asked input b → a ≡ b
one_answer_of scenarios modules asked input a b answers other =
    elim (within_limit asked input a answers) [
      | inl long ↦ elim (within_limit asked input b other) [
        | inl long' ↦ long.0 ∙ sym long'.0
        | inr short ↦ absurd (omega (arith, long.1, short.0))
      ]
      | inr short ↦ elim (within_limit asked input b other) [
        | inl long ↦ absurd (omega (arith, long.1, short.0))
        | inr short' ↦ one_answer_within scenarios modules asked input a b short.1 short'.1
      ]
    ]
