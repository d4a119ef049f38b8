-- The sum of all balances, where the balance of one actor changes.
use Rattle.std.proofs.Common.{◌≡◌, ℕ, ◌+◌, ◌≤◌, List, [], ◌∷◌, Bool, true, false, cond, ◌&&◌, map, Some, None, refl, sym, ap, ◌∙◌, arith}
use Rattle.std.proofs.lemmas.List.Sums.{sum_by-cons}
use Rattle.std.specs.Prelude.{T, sum}
use Rattle.std.specs.Cmp.{nat_cmp_total}
use Rattle.std.specs.FinMap as finmap
use Rattle.std.specs.FinMap.{entries, get, insert}
use Rattle.std.specs.FinMap.Entries.{below_all, by_order, find, is_sorted, put}
use Rattle.std.specs.Ordering.{eq_by_cmp, is_eq, is_lt, nat_cmp}
use Rattle.std.specs.declared.cmp.Ordering.{Ordering}
use Rattle.std.specs.declared.cmp.Ordering.TheVariants.{Less, Equal, Greater}
use Rattle.state_tree.specs.ActorPairs.{balance_of}
use Rattle.state_tree.specs.Actors.{Actors, balances}
use Rattle.state_tree.specs.declared.actor.Actor.{Actor}

abbrev total_of : List (ℕ × Actor) → ℕ
total_of es = sum (map (λ e. e.1.balance) es)

total_cons : (e : ℕ × Actor) (es : List (ℕ × Actor)) → total_of (e ∷ es) ≡ e.1.balance + total_of es
total_cons e es = sum_by-cons (λ n. n) e.1.balance (map (λ (a : ℕ × Actor). a.1.balance) es)

less_is : (o : Ordering) (b : Bool) → T (is_lt o && b) → (o ≡ Less) × T b
less_is Less b h = (refl, h)
less_is Equal b h = absurd h
less_is Greater b h = absurd h

two_so : (s t : Bool) → T (s && t) → T s × T t
two_so true t h = (tt, h)
two_so false t h = absurd h

not_found_below : (id k : ℕ) (es : List (ℕ × Actor)) → nat_cmp id k ≡ Less → T (below_all nat_cmp k es) → find nat_cmp id es ≡ None
not_found_below id k [] less below = refl
not_found_below id k (e ∷ es) less below =
    let both = less_is (nat_cmp k e.0) (below_all nat_cmp k es) below in
    let far : nat_cmp id e.0 ≡ Less = (nat_cmp_total).trans id k e.0 less both.0 in
    ap (λ (o : Ordering). cond (is_eq o) (Some e.1) (find nat_cmp id es)) far ∙ not_found_below id k es less both.1

-- with another actor at an ID that is there, the sum changes by the balance
total_put : (id : ℕ) (a old : Actor) (es : List (ℕ × Actor)) → T (is_sorted nat_cmp es) → find nat_cmp id es ≡ Some old → total_of (put nat_cmp id a es) + old.balance ≡ total_of es + a.balance
total_put id a old [] sorted there = absurd (cc)
total_put id a old (e ∷ es) sorted there =
    let parts = two_so (below_all nat_cmp e.0 es) (is_sorted nat_cmp es) sorted in
    elim (nat_cmp id e.0) as (λ o. nat_cmp id e.0 ≡ o → cond (is_eq o) (Some e.1) (find nat_cmp id es) ≡ Some old
    → total_of (by_order o ((id, a) ∷ e ∷ es) ((e.0, a) ∷ es) (e ∷ put nat_cmp id a es)) + old.balance ≡ total_of (e ∷ es) + a.balance) [
      | Less ↦ λ is found. let none = not_found_below id e.0 es is parts.0 in absurd (cc)
      | Equal ↦ λ is found.
          let same : e.1 ≡ old = cc in
          let had : e.1.balance ≡ old.balance = ap (λ (x : Actor). x.balance) same in
          omega (arith, total_cons (e.0, a) es, total_cons e es, had)
      | Greater ↦ λ is found. omega (arith, total_cons e (put nat_cmp id a es), total_cons e es, total_put id a old es parts.1 found)
    ] refl there

pub total_insert : (actors : Actors) (id : ℕ) (old a : Actor) → get actors id ≡ Some old → balances (insert actors id a) + old.balance ≡ balances actors + a.balance
total_insert actors id old a there =
    ap (λ (es : List (ℕ × Actor)). total_of es + old.balance) (finmap.entries-insert nat_cmp_total actors id a)
    ∙ total_put id a old (entries actors) (finmap.entries_sorted actors) (sym (finmap.get-entries actors id) ∙ there)

held_of : (id : ℕ) (es : List (ℕ × Actor)) → balance_of (find nat_cmp id es) ≤ total_of es
held_of id [] = omega arith
held_of id (e ∷ es) =
    elim (eq_by_cmp nat_cmp id e.0) as (λ b. balance_of (cond b (Some e.1) (find nat_cmp id es)) ≤ total_of (e ∷ es)) [
      | true ↦ omega (arith, total_cons e es)
      | false ↦ omega (arith, total_cons e es, held_of id es)
    ]

-- no actor has more than all have together
pub held_within : (actors : Actors) (id : ℕ) → balance_of (get actors id) ≤ balances actors
held_within actors id =
    let found = ap balance_of (finmap.get-entries actors id) in
    omega (arith, held_of id (entries actors), found)
