-- Who may send a message.
use Rattle.std.proofs.Common.{◌≡◌, ◌≢◌, ℕ, Bool, true, false, cond, eqb, not, ◌||◌, Option, Some, None, refl, sym, ap, subst, ◌∙◌}
use Rattle.std.proofs.lemmas.Bool.{eqb-false, eqb-true, ltb-false, not-false, or_parts}
use Rattle.std.specs.Prelude.{nat_lt}
use Rattle.std.specs.FinMap.{get}
use Rattle.std.specs.Option.{option_map}
use Rattle.fil_base.specs.CidEquality.{same_parts}
use Rattle.fil_base.specs.CidParts.{CidParts}
use Rattle.fil_message.specs.declared.message.Message.{Message}
use Rattle.gas_prices.specs.declared.rules.Rules.{Rules}
use Rattle.init_names.specs.Resolving.{resolved}
use Rattle.state_model.specs.State.{State}
use Rattle.state_tree.specs.declared.actor.Actor.{Actor}
use Rattle.tree_blocks.specs.Forms.{if_some}
use Rattle.tree_blocks.proofs.ForEach.{if_some_gives}
use Rattle.tipset_exec.specs.Balances.{burnt_funds_id, reward_id}
use Rattle.tipset_exec.specs.Ends.{IsSender}
use Rattle.tipset_exec.specs.Funds.{IsOther, code_at}
use Rattle.tipset_exec.specs.Messages.{greatest_cost, sender_fault, sender_of}

found_there : (actors : ℕ → Option Actor) (o : Option ℕ) (id : ℕ) (actor : Actor) → if_some {B = ℕ × Actor} o (λ n. if_some {B = ℕ × Actor} (actors n) (λ a. Some (n, a))) ≡ Some (id, actor) → actors id ≡ Some actor
found_there actors o id actor found =
    let name = if_some_gives {B = ℕ × Actor} o (λ n. if_some {B = ℕ × Actor} (actors n) (λ a. Some (n, a))) (id, actor) found in
    let there = if_some_gives {B = ℕ × Actor} (actors name.0) (λ a. Some (name.0, a)) (id, actor) name.2 in
    let both : ◌≡◌ {A = ℕ × Actor} (name.0, there.0) (id, actor) = cc in
    let same : name.0 ≡ id = ap (λ (p : ℕ × Actor). p.0) both in
    let one : there.0 ≡ actor = ap (λ (p : ℕ × Actor). p.1) both in
    ap actors (sym same) ∙ there.1 ∙ ap Some one

-- where no test fits, each failed
none_fits : (a b c : Bool) (x y z : ℕ) → cond a (Some x) (cond b (Some y) (cond c (Some z) None)) ≡ None → (a ≡ false) × (b ≡ false) × (c ≡ false)
none_fits true b c x y z is = absurd (cc)
none_fits false true c x y z is = absurd (cc)
none_fits false false true x y z is = absurd (cc)
none_fits false false false x y z is = (refl, refl, refl)

-- an actor with no fault may send the message
pub sender_is : (rules : Rules) (s : State) (m : Message) (id : ℕ) (actor : Actor) → sender_of s m ≡ Some (id, actor) → sender_fault rules m (Some (id, actor)) ≡ None → IsSender rules s m id actor
sender_is rules s m id actor found none =
    let tests = none_fits (eqb id burnt_funds_id || not (same_parts actor.code rules.codes.account)) (not (eqb actor.sequence m.nonce)) (nat_lt actor.balance (greatest_cost m)) _ _ _ none in
    let first = or_parts (eqb id burnt_funds_id) (not (same_parts actor.code rules.codes.account)) tests.0 in
    record {
      there = found_there (get s.actors) (resolved s.names m.from) id actor found;
      account = not-false (same_parts actor.code rules.codes.account) first.1;
      other = eqb-false id burnt_funds_id first.0;
      sequence = eqb-true actor.sequence m.nonce (not-false (eqb actor.sequence m.nonce) tests.1);
      enough = ltb-false actor.balance (greatest_cost m) tests.2;
    }

other_code : (account code : CidParts) → IsOther account (Some code) → same_parts code account ≡ true → ⊥
other_code account code other same = absurd (cc)

-- and is not the reward actor
pub no_reward : (rules : Rules) (s : State) (m : Message) (id : ℕ) (actor : Actor) → IsSender rules s m id actor → IsOther rules.codes.account (code_at s reward_id) → id ≢ reward_id
no_reward rules s m id actor is other same =
    let code : Actor → CidParts = λ x. x.code in
    let there : code_at s reward_id ≡ Some actor.code = ap (λ (n : ℕ). option_map code (get s.actors n)) (sym same) ∙ ap (option_map code) is.there in
    other_code rules.codes.account actor.code (subst (IsOther rules.codes.account) there other) is.account
