-- What the calls of a ledger give.
use Rattle.std.proofs.Common.{◌≡◌, ℕ, ◌+◌, ◌≤◌, List, true, false, eqb, Option, Some, None, Result, OnOk, refl, sym, ap, subst, ◌∙◌, arith}
use Rattle.std.proofs.lemmas.Bool.{cond-false, cond-true}
use Rattle.std.proofs.lemmas.Result.{on_ok_weaker}
use Rattle.std.specs.FinMap.{get, insert}
use Rattle.cid_core.specs.BlockParts.{BlockParts}
use Rattle.fil_base.specs.declared.token.TheConstants.{GREATEST_AMOUNT}
use Rattle.state_model.specs.State.{State}
use Rattle.state_tree.specs.ActorPairs.{balance_of}
use Rattle.state_tree.specs.declared.actor.Actor.{Actor}
use Rattle.tipset_exec.specs.Balances.{burned, burnt_funds_id, minted, moved, paid, reward_id, with_changed, with_more}
use Rattle.tipset_exec.specs.Funds.{IsWithin, held}
use Rattle.tipset_exec.specs.Stands.{Stands}
use Rattle.tipset_exec.specs.declared.ledger.Ledger.{Ledger}
use Rattle.tipset_exec.proofs.Changes.{change_is, changed_none, changed_there, others_kept}
use Rattle.tipset_exec.proofs.Sums.{held_within}

-- ---- one actor

-- what the actor that was read has
pub has_read : (s : State) (id : ℕ) (o : Option Actor) (actor : Actor) → o ≡ get s.actors id → o ≡ Some actor → held s id ≡ actor.balance
has_read s id o actor read is = ap balance_of (sym read ∙ is)

pub gift_fits : (s : State) (id n : ℕ) (o : Option Actor) (actor : Actor) → o ≡ get s.actors id → o ≡ Some actor → IsWithin (with_more s id n) → actor.balance + n ≤ GREATEST_AMOUNT
gift_fits s id n o actor read is within =
    let change : Actor → Actor = λ a. record a { balance = a.balance + n } in
    let there : get s.actors id ≡ Some actor = sym read ∙ is in
    let here = (change_is s id change actor there refl).here in
    omega (arith, here, held_within (with_more s id n).actors id, within.balances)

-- with the changed actor, the ledger stands for the changed state
pub put_changed : (after : Ledger) (blocks : List BlockParts) (s : State) (id : ℕ) (change : Actor → Actor) (o : Option Actor) (actor a : Actor) → o ≡ get s.actors id → o ≡ Some actor → a ≡ change actor
    → Stands after blocks (record s { actors = insert s.actors id a }) → Stands after blocks (with_changed s id change)
put_changed after blocks s id change o actor a read is same stands =
    subst (Stands after blocks) (ap (λ (x : Actor). record s { actors = insert s.actors id x }) same ∙ sym (changed_there s id change actor (sym read ∙ is))) stands

pub put_if_done : {T E : Type 0} (result : Result T E) (after : Ledger) (blocks : List BlockParts) (s : State) (id : ℕ) (change : Actor → Actor) (o : Option Actor) (actor a : Actor) → o ≡ get s.actors id → o ≡ Some actor
    → a ≡ change actor → OnOk result (Stands after blocks (record s { actors = insert s.actors id a })) → OnOk result (Stands after blocks (with_changed s id change))
put_if_done result after blocks s id change o actor a read is same done = on_ok_weaker result (put_changed after blocks s id change o actor a read is same) done

-- where the actor is not there, nothing changes
pub unchanged : (ledger : Ledger) (blocks : List BlockParts) (s : State) (id : ℕ) (change : Actor → Actor) (o : Option Actor) → o ≡ get s.actors id → o ≡ None → Stands ledger blocks s
    → Stands ledger blocks (with_changed s id change)
unchanged ledger blocks s id change o read none stands = subst (Stands ledger blocks) (sym (changed_none s id change (sym read ∙ none))) stands

-- ---- amounts that are recorded

burned_kept : (s : State) (id n : ℕ) → (with_more s id n).burned ≡ s.burned
burned_kept s id n = others_kept ℕ (λ t. t.burned) (λ t actors. refl) s id (λ a. record a { balance = a.balance + n })

minted_kept : (s : State) (id n : ℕ) → (with_more s id n).minted ≡ s.minted
minted_kept s id n = others_kept ℕ (λ t. t.minted) (λ t actors. refl) s id (λ a. record a { balance = a.balance + n })

-- what is burned or minted is first given
pub gift_of_burned : (s : State) (n : ℕ) → IsWithin (burned s n) → IsWithin (with_more s burnt_funds_id n)
gift_of_burned s n is = record { balances = is.balances; minted = is.minted; burned = omega (arith, burned_kept s burnt_funds_id n, is.burned) }

pub gift_of_minted : (s : State) (n : ℕ) → IsWithin (minted s n) → IsWithin (with_more s reward_id n)
gift_of_minted s n is = record { balances = is.balances; minted = omega (arith, minted_kept s reward_id n, is.minted); burned = is.burned }

-- a ledger that records what was given
pub burn_recorded : (ledger : Ledger) (blocks : List BlockParts) (s : State) (n sum : ℕ) → Stands ledger blocks (with_more s burnt_funds_id n) → sum ≡ ledger.burned + n → Stands (record ledger { burned = sum }) blocks (burned s n)
burn_recorded ledger blocks s n sum stands is = record {
  parts = stands.parts;
  minted = stands.minted;
  burned = is ∙ ap (λ (k : ℕ). k + n) (stands.burned ∙ burned_kept s burnt_funds_id n);
  made = stands.made;
}

pub mint_recorded : (ledger : Ledger) (blocks : List BlockParts) (s : State) (n sum : ℕ) → Stands ledger blocks (with_more s reward_id n) → sum ≡ ledger.minted + n → Stands (record ledger { minted = sum }) blocks (minted s n)
mint_recorded ledger blocks s n sum stands is = record {
  parts = stands.parts;
  minted = is ∙ ap (λ (k : ℕ). k + n) (stands.minted ∙ minted_kept s reward_id n);
  burned = stands.burned;
  made = stands.made;
}

-- what is burned, with what was burned before, fits
pub burn_fits : (ledger : Ledger) (blocks : List BlockParts) (s : State) (n : ℕ) → Stands ledger blocks (with_more s burnt_funds_id n) → IsWithin (burned s n) → ledger.burned + n ≤ GREATEST_AMOUNT
burn_fits ledger blocks s n stands is = omega (arith, stands.burned, burned_kept s burnt_funds_id n, is.burned)

pub mint_fits : (ledger : Ledger) (blocks : List BlockParts) (s : State) (n : ℕ) → Stands ledger blocks (with_more s reward_id n) → IsWithin (minted s n) → ledger.minted + n ≤ GREATEST_AMOUNT
mint_fits ledger blocks s n stands is = omega (arith, stands.minted, minted_kept s reward_id n, is.minted)

-- ---- payments

pub paid_burned : (s : State) (id n : ℕ) → eqb id burnt_funds_id ≡ true → paid s id n ≡ burned s n
paid_burned s id n is = cond-true (eqb id burnt_funds_id) (burned s n) (with_more s id n) is

pub paid_given : (s : State) (id n : ℕ) → eqb id burnt_funds_id ≡ false → paid s id n ≡ with_more s id n
paid_given s id n is = cond-false (eqb id burnt_funds_id) (burned s n) (with_more s id n) is

-- what moving an amount asks for
abbrev pub CanMove : Ledger → List BlockParts → ℕ → ℕ → ℕ → Type 0
CanMove ledger blocks from to n = (s : State) × Stands ledger blocks s × (n ≤ held s from) × IsWithin (moved s from to n)

pub can_move : (ledger : Ledger) (blocks : List BlockParts) (s : State) (a from b to k n : ℕ) → a ≡ from → b ≡ to → k ≡ n → Stands ledger blocks s → n ≤ held s from → IsWithin (moved s from to n) → CanMove ledger blocks a b k
can_move ledger blocks s a from b to k n from-is to-is n-is stands enough within =
    let given : CanMove ledger blocks from to n = (s, stands, enough, within) in
    subst (λ (x : ℕ). CanMove ledger blocks x b k) (sym from-is) (subst (λ (x : ℕ). CanMove ledger blocks from x k) (sym to-is) (subst (λ (x : ℕ). CanMove ledger blocks from to x) (sym n-is) given))

pub same_move : (s : State) (a from b to k n : ℕ) → a ≡ from → b ≡ to → k ≡ n → moved s a b k ≡ moved s from to n
same_move s a from b to k n from-is to-is n-is = λ i. moved s (from-is i) (to-is i) (n-is i)
