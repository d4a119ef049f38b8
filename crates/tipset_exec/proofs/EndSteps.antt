-- How a call ends, as the code takes its steps.
use Rattle.std.proofs.Common.{◌≡◌, ◌≢◌, ℕ, ◌-◌, ◌<◌, ◌≤◌, List, inl, inr, true, false, eqb, is_err, Option, Some, None, Result, Ok, Err, IfOk, OnOk, OnErr, refl, sym, ap, subst, ◌∙◌}
use Rattle.std.proofs.lemmas.Bool.{cases_lt, cond-false, cond-true, eq-eqb, false≢true, le-ltb, lt-ltb, ne_eqb, true≢false}
use Rattle.std.specs.Prelude.{◌↔◌, IsErr, nat_lt}
use Rattle.std.specs.FinMap.{get}
use Rattle.cid_core.specs.BlockParts.{BlockParts}
use Rattle.fil_base.specs.declared.exit_code.TheConstants.{EXIT_OK, SYS_INSUFFICIENT_FUNDS, SYS_INVALID_RECEIVER}
use Rattle.fil_message.specs.declared.message.Message.{Message}
use Rattle.gas_prices.specs.declared.price.Price.TheVariants as price
use Rattle.gas_prices.specs.declared.rules.Rules.{Rules}
use Rattle.init_names.specs.Resolving.{resolved}
use Rattle.state_model.specs.State.{State}
use Rattle.state_tree.specs.declared.actor.Actor.{Actor}
use Rattle.tipset_exec.specs.Balances.{moved}
use Rattle.tipset_exec.specs.Calls.{CallEnd, actor_named, called, failed, if_charged, price_of, succeeded, transfer}
use Rattle.tipset_exec.specs.Ends.{IsEnd, IsJudged}
use Rattle.tipset_exec.specs.Funds.{held}
use Rattle.tipset_exec.specs.Messages.{call_in, sender_fault, sender_of}
use Rattle.tipset_exec.specs.Stands.{Stands}
use Rattle.tipset_exec.specs.declared.exit.TheConstants.{SYS_OUT_OF_GAS}
use Rattle.tipset_exec.specs.declared.ledger.Ledger.{Ledger}
use Rattle.tipset_exec.proofs.CallSteps.{called_no_one, called_one, enough, too_little}

-- ---- a result of which the variant was asked

pub at_err : {T E : Type 0} (r : Result T E) (P : Type 0) → is_err r ≡ true → OnErr r P → P
at_err (Ok x) P is holds = absurd (false≢true is)
at_err (Err e) P is holds = holds

pub at_ok : {T E : Type 0} (r : Result T E) (P : Type 0) → is_err r ≡ false → OnOk r P → P
at_ok (Ok x) P is holds = holds
at_ok (Err e) P is holds = absurd (true≢false is)

pub not_short : {T E : Type 0} (r : Result T E) (left amount : ℕ) → is_err r ≡ false → (IsErr r ↔ (left < amount)) → amount ≤ left
not_short r left amount fine refused = elim (cases_lt left amount) [ inl short ↦ absurd (false≢true (sym fine ∙ refused.1 short)) | inr fits ↦ fits ]

-- ---- who sends

sender_there : (s : State) (m : Message) (id : ℕ) (actor : Actor) → resolved s.names m.from ≡ Some id → get s.actors id ≡ Some actor → sender_of s m ≡ Some (id, actor)
sender_there s m id actor name there = rw (name, there) refl

pub judged_fault : (rules : Rules) (s : State) (m : Message) (name : Option ℕ) (found : Option Actor) (id : ℕ) (actor : Actor) (fault : Option ℕ) (exit : ℕ) → name ≡ resolved s.names m.from → name ≡ Some id
    → found ≡ get s.actors id → found ≡ Some actor → fault ≡ sender_fault rules m (Some (id, actor)) → fault ≡ Some exit → IsJudged rules s m (Err exit)
judged_fault rules s m name found id actor fault exit named is read there judged wrong =
    ap (sender_fault rules m) (sender_there s m id actor (sym named ∙ is) (sym read ∙ there)) ∙ sym judged ∙ wrong

pub judged_sender : (rules : Rules) (s : State) (m : Message) (name : Option ℕ) (found : Option Actor) (id : ℕ) (actor : Actor) (fault : Option ℕ) → name ≡ resolved s.names m.from → name ≡ Some id
    → found ≡ get s.actors id → found ≡ Some actor → fault ≡ sender_fault rules m (Some (id, actor)) → fault ≡ None → IsJudged rules s m (Ok (id, actor))
judged_sender rules s m name found id actor fault named is read there judged none = (sender_there s m id actor (sym named ∙ is) (sym read ∙ there), sym judged ∙ none)

-- ---- a value moves

pub no_funds : (s : State) (gas from to value code : ℕ) (ledger : Ledger) (blocks : List BlockParts) → held s from < value → code ≡ SYS_INSUFFICIENT_FUNDS → Stands ledger blocks s
    → IsEnd code ledger gas blocks (transfer s gas from to value)
no_funds s gas from to value code ledger blocks short is stands =
    subst (IsEnd code ledger gas blocks) (sym (cond-true (nat_lt (held s from) value) (failed SYS_INSUFFICIENT_FUNDS s gas 0) (succeeded (moved s from to value) gas 0) (lt-ltb (held s from) value short)))
    (record { exit = is; returned = refl; state = stands; gas = refl; invocations = refl })

pub moved_end : (s : State) (gas from to value code : ℕ) (ledger : Ledger) (blocks : List BlockParts) → value ≤ held s from → code ≡ EXIT_OK → Stands ledger blocks (moved s from to value)
    → IsEnd code ledger gas blocks (transfer s gas from to value)
moved_end s gas from to value code ledger blocks fits is stands =
    subst (IsEnd code ledger gas blocks) (sym (cond-false (nat_lt (held s from) value) (failed SYS_INSUFFICIENT_FUNDS s gas 0) (succeeded (moved s from to value) gas 0) (le-ltb (held s from) value fits)))
    (record { exit = is; returned = refl; state = stands; gas = refl; invocations = refl })

-- ---- no receiver, or no value

pub no_receiver : (rules : Rules) (s : State) (gas from : ℕ) (m : Message) (code : ℕ) (ledger : Ledger) (blocks : List BlockParts) → actor_named s m.to ≡ None → code ≡ SYS_INVALID_RECEIVER → Stands ledger blocks s
    → IsEnd code ledger gas blocks (called rules s gas (call_in from m))
no_receiver rules s gas from m code ledger blocks none is stands =
    subst (IsEnd code ledger gas blocks) (sym (called_no_one rules s gas (call_in from m) none)) (record { exit = is; returned = refl; state = stands; gas = refl; invocations = refl })

pub no_value : (rules : Rules) (s : State) (gas from : ℕ) (m : Message) (to code : ℕ) (ledger : Ledger) (blocks : List BlockParts) → actor_named s m.to ≡ Some to → m.value ≡ 0 → code ≡ EXIT_OK → Stands ledger blocks s
    → IsEnd code ledger gas blocks (called rules s gas (call_in from m))
no_value rules s gas from m to code ledger blocks there nothing is stands =
    let moves : CallEnd = if_charged s 0 gas (price_of rules price.Transfer) (λ left. transfer s left from to m.value) in
    subst (IsEnd code ledger gas blocks) (sym (called_one rules s gas (call_in from m) to there ∙ cond-true (eqb m.value 0) (succeeded s gas 0) moves (eq-eqb m.value 0 nothing)))
    (record { exit = is; returned = refl; state = stands; gas = refl; invocations = refl })

-- ---- a receiver that is there gets a value

paid_call : (rules : Rules) (s : State) (gas from : ℕ) (m : Message) (to : ℕ) → actor_named s m.to ≡ Some to → m.value ≢ 0
    → called rules s gas (call_in from m) ≡ if_charged s 0 gas (price_of rules price.Transfer) (λ left. transfer s left from to m.value)
paid_call rules s gas from m to there some =
    let moves : CallEnd = if_charged s 0 gas (price_of rules price.Transfer) (λ left. transfer s left from to m.value) in
    called_one rules s gas (call_in from m) to there ∙ cond-false (eqb m.value 0) (succeeded s gas 0) moves (ne_eqb m.value 0 some)

pub out_of_gas : (rules : Rules) (s : State) (gas from : ℕ) (m : Message) (to code left : ℕ) (ledger : Ledger) (blocks : List BlockParts) → actor_named s m.to ≡ Some to → m.value ≢ 0 → gas < price_of rules price.Transfer
    → code ≡ SYS_OUT_OF_GAS → left ≡ 0 → Stands ledger blocks s → IsEnd code ledger left blocks (called rules s gas (call_in from m))
out_of_gas rules s gas from m to code left ledger blocks there some short is none stands =
    subst (IsEnd code ledger left blocks) (sym (paid_call rules s gas from m to there some ∙ too_little s 0 gas (price_of rules price.Transfer) (λ l. transfer s l from to m.value) short))
    (record { exit = is; returned = refl; state = stands; gas = none; invocations = refl })

pub transferred : {E : Type 0} (result : Result ℕ E) (rules : Rules) (s : State) (gas from : ℕ) (m : Message) (to left : ℕ) (ledger : Ledger) (blocks : List BlockParts) → actor_named s m.to ≡ Some to → m.value ≢ 0
    → price_of rules price.Transfer ≤ gas → left ≡ gas - price_of rules price.Transfer → IfOk result (λ exit. IsEnd exit ledger left blocks (transfer s left from to m.value))
    → IfOk result (λ exit. IsEnd exit ledger left blocks (called rules s gas (call_in from m)))
transferred result rules s gas from m to left ledger blocks there some fits is ends =
    let amount = price_of rules price.Transfer in
    let whole = paid_call rules s gas from m to there some ∙ enough s 0 gas amount (λ l. transfer s l from to m.value) fits ∙ ap (λ (l : ℕ). transfer s l from to m.value) (sym is) in
    subst (λ (end : CallEnd). IfOk result (λ exit. IsEnd exit ledger left blocks end)) (sym whole) ends
