-- What a state is once one actor changed.
use Rattle.std.proofs.Common.{◌≡◌, ◌≢◌, ℕ, ◌+◌, ◌≤◌, true, false, cond, eqb, Option, Some, None, inl, inr, refl, sym, ap, subst, ◌∙◌, arith}
use Rattle.std.proofs.lemmas.Bool.{cases_eq, eq-eqb, eqb-true, ne_eqb}
use Rattle.std.specs.Prelude.{is_some}
use Rattle.std.specs.Cmp.{nat_cmp_total}
use Rattle.std.specs.FinMap.{get, get-insert, insert}
use Rattle.std.specs.Option.{option_map}
use Rattle.fil_base.specs.CidParts.{CidParts}
use Rattle.state_model.specs.State.{State}
use Rattle.state_tree.specs.ActorPairs.{balance_of}
use Rattle.state_tree.specs.Actors.{Actors, balances}
use Rattle.state_tree.specs.declared.actor.Actor.{Actor}
use Rattle.tipset_exec.specs.Balances.{with_changed}
use Rattle.tipset_exec.specs.Funds.{code_at, held}
use Rattle.tipset_exec.proofs.Lookup.{eq_by_nat_cmp}
use Rattle.tipset_exec.proofs.Sums.{total_insert}

-- ---- whether the actor is there

pub changed_there : (s : State) (id : ℕ) (change : Actor → Actor) (actor : Actor) → get s.actors id ≡ Some actor → with_changed s id change ≡ record s { actors = insert s.actors id (change actor) }
changed_there s id change actor there = rw there refl

pub changed_none : (s : State) (id : ℕ) (change : Actor → Actor) → get s.actors id ≡ None → with_changed s id change ≡ s
changed_none s id change none = rw none refl

-- only the actors change
pub others_kept : (A : Type 0) (part : State → A) → ((s : State) (actors : Actors) → part (record s { actors = actors }) ≡ part s) → (s : State) (id : ℕ) (change : Actor → Actor) → part (with_changed s id change) ≡ part s
others_kept A part kept s id change =
    elim (get s.actors id) as (λ o. get s.actors id ≡ o → part (with_changed s id change) ≡ part s) [
      | None ↦ λ none. ap part (changed_none s id change none)
      | (Some actor) ↦ λ there. ap part (changed_there s id change actor there) ∙ kept s (insert s.actors id (change actor))
    ] refl

code_there : {A B : Type 0} (f : A → B) (o : Option A) → is_some (option_map f o) ≡ true → (x : A) × (o ≡ Some x)
code_there f None is = absurd (cc)
code_there f (Some x) is = (x, refl)

pub actor_of_code : (s : State) (id : ℕ) → is_some (code_at s id) ≡ true → (actor : Actor) × (get s.actors id ≡ Some actor)
actor_of_code s id is = code_there (λ (a : Actor). a.code) (get s.actors id) is

-- ---- what changes

-- all codes are the same, and so are the balances but that of one actor
pub record IsChanged (s : State) (t : State) (id : ℕ) (before : ℕ) (after : ℕ) : Type 0 where
  pub codes : (q : ℕ) → code_at t q ≡ code_at s q
  pub there : held s id ≡ before
  pub here : held t id ≡ after
  pub others : (q : ℕ) → q ≢ id → held t q ≡ held s q
  pub total : balances t.actors + before ≡ balances s.actors + after
  pub minted : t.minted ≡ s.minted
  pub burned : t.burned ≡ s.burned

got : (actors : Actors) (id : ℕ) (a : Actor) (q : ℕ) → get (insert actors id a) q ≡ cond (eqb q id) (Some a) (get actors q)
got actors id a q = get-insert nat_cmp_total actors id a q ∙ ap (λ b. cond b (Some a) (get actors q)) (eq_by_nat_cmp q id)

-- another actor stays
pub other_actor : (s : State) (id q : ℕ) (change : Actor → Actor) → q ≢ id → get (with_changed s id change).actors q ≡ get s.actors q
other_actor s id q change other =
    elim (get s.actors id) as (λ o. get s.actors id ≡ o → get (with_changed s id change).actors q ≡ get s.actors q) [
      | None ↦ λ none. ap (λ (t : State). get t.actors q) (changed_none s id change none)
      | (Some actor) ↦ λ there.
          ap (λ (t : State). get t.actors q) (changed_there s id change actor there) ∙ got s.actors id (change actor) q ∙ ap (λ b. cond b (Some (change actor)) (get s.actors q)) (ne_eqb q id other)
    ] refl

same_code : (actors : Actors) (id : ℕ) (old a : Actor) (q : ℕ) → get actors id ≡ Some old → a.code ≡ old.code
    → option_map (λ (x : Actor). x.code) (get (insert actors id a) q) ≡ option_map (λ (x : Actor). x.code) (get actors q)
same_code actors id old a q there same =
    let code : Actor → CidParts = λ x. x.code in
    ap (option_map code) (got actors id a q)
    ∙ elim (eqb q id) as (λ b. eqb q id ≡ b → option_map code (cond b (Some a) (get actors q)) ≡ option_map code (get actors q)) [
      | true ↦ λ is. ap Some same ∙ sym (ap (option_map code) (ap (get actors) (eqb-true q id is) ∙ there))
      | false ↦ λ is. refl
    ] refl

held_here : (actors : Actors) (id : ℕ) (a : Actor) → balance_of (get (insert actors id a) id) ≡ a.balance
held_here actors id a =
    ap balance_of (got actors id a id) ∙ ap (λ b. balance_of (cond b (Some a) (get actors id))) (eq_is id) where
      eq_is : (n : ℕ) → eqb n n ≡ true
      eq_is n = eq-eqb n n refl

held_there : (actors : Actors) (id : ℕ) (a : Actor) (q : ℕ) → q ≢ id → balance_of (get (insert actors id a) q) ≡ balance_of (get actors q)
held_there actors id a q other =
    ap balance_of (got actors id a q) ∙ ap (λ b. balance_of (cond b (Some a) (get actors q))) (ne_eqb q id other)

changed_is : (s : State) (id : ℕ) (old a : Actor) → get s.actors id ≡ Some old → a.code ≡ old.code → IsChanged s (record s { actors = insert s.actors id a }) id old.balance a.balance
changed_is s id old a there same = record {
  codes = λ q. same_code s.actors id old a q there same;
  there = ap balance_of there;
  here = held_here s.actors id a;
  others = λ q other. held_there s.actors id a q other;
  total = total_insert s.actors id old a there;
  minted = refl;
  burned = refl;
}

pub change_is : (s : State) (id : ℕ) (change : Actor → Actor) (actor : Actor) → get s.actors id ≡ Some actor → (change actor).code ≡ actor.code
    → IsChanged s (with_changed s id change) id actor.balance (change actor).balance
change_is s id change actor there same =
    subst (λ (t : State). IsChanged s t id actor.balance (change actor).balance) (sym (changed_there s id change actor there)) (changed_is s id actor (change actor) there same)

-- ---- changes of a balance

-- what one has more of, no one has less of
pub grown : (s t : State) (id before more : ℕ) → IsChanged s t id before (before + more) → (q : ℕ) → held s q ≤ held t q
grown s t id before more is q = elim (cases_eq q id) [
  | inl same ↦ let a = ap (held s) same in let b = ap (held t) same in omega (arith, a, b, is.there, is.here)
  | inr other ↦ omega (arith, is.others q other)
]
