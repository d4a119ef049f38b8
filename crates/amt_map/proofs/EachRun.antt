-- The pairs of a node are runs with one digit each.
use Rattle.std.proofs.Common.{◌≡◌, ◌≢◌, ℕ, zero, suc, ◌+◌, ◌*◌, ◌/◌, ◌%◌, ◌^◌, ◌<◌, ◌≤◌, Bool, true, false, eqb, List, [], ◌∷◌, ◌++◌, length, take, All, refl, sym, ap, subst, ◌∙◌, arith, length-append}
use Rattle.std.proofs.lemmas.Bool.{eqb-true, eqb-false}
use Rattle.std.proofs.lemmas.List.Elements.{All-nil, All-cons}
use Rattle.amt_map.specs.OneNode.{IsOneNode}
use Rattle.amt_map.specs.Pairs.{digit_at}
use Rattle.amt_map.proofs.NodePlaces.{under_node}

-- the first pairs that have a digit, and those behind them
pub record Run {X : Type 0} (height d : ℕ) (ps : List (ℕ × X)) : Type 0 where
  pub run : List (ℕ × X)
  pub behind : List (ℕ × X)
  pub whole : ps ≡ run ++ behind
  pub has : All (λ p. digit_at height p.0 ≡ d) run
  pub apart : All (λ p. digit_at height p.0 ≢ d) (take 1 behind)

run_of : {X : Type 0} (height d : ℕ) (ps : List (ℕ × X)) → Run height d ps
run_of height d [] = record { run = []; behind = []; whole = refl; has = All-nil (λ p. digit_at height p.0 ≡ d); apart = All-nil (λ p. digit_at height p.0 ≢ d) }
run_of {X} height d (p ∷ ps) = by (eqb (digit_at height p.0) d) refl (run_of height d ps) where
  by : (b : Bool) → eqb (digit_at height p.0) d ≡ b → Run height d ps → Run height d (p ∷ ps)
  by true e rest = record {
    run = p ∷ rest.run;
    behind = rest.behind;
    whole = ap (λ (qs : List (ℕ × X)). p ∷ qs) rest.whole;
    has = All-cons (λ q. digit_at height q.0 ≡ d) p rest.run (eqb-true _ _ e) rest.has;
    apart = rest.apart;
  }
  by false e rest = record {
    run = [];
    behind = p ∷ ps;
    whole = refl;
    has = All-nil (λ q. digit_at height q.0 ≡ d);
    apart = All-cons (λ q. digit_at height q.0 ≢ d) p [] (eqb-false _ _ e) (All-nil (λ q. digit_at height q.0 ≢ d));
  }

-- what is true of no pairs, and of a run before others if it is true of those, is true of the pairs of a node
module _ {X : Type 0} (height place : ℕ) (P : List (ℕ × X) → Type 0) (nothing : P [])
    (step : (d : ℕ) (run behind : List (ℕ × X)) → IsOneNode height place (run ++ behind) → 0 < length run → d < 8 → All (λ p. digit_at height p.0 ≡ d) run → All (λ p. digit_at height p.0 ≢ d) (take 1 behind) → P behind → P (run ++ behind)) where
  within : (fuel : ℕ) (ps : List (ℕ × X)) → length ps ≤ fuel → IsOneNode height place ps → P ps
  within fuel [] le one = nothing
  within zero (p ∷ ps) le one = absurd (omega (arith, le))
  within (suc fuel) (p ∷ ps) le one =
      let d : ℕ = digit_at height p.0 in
      let rest = run_of height d ps in
      let whole : p ∷ ps ≡ (p ∷ rest.run) ++ rest.behind = ap (λ (qs : List (ℕ × X)). p ∷ qs) rest.whole in
      let one_all : IsOneNode height place ((p ∷ rest.run) ++ rest.behind) = subst (IsOneNode height place) whole one in
      let count : length ps ≡ length rest.run + length rest.behind = ap length rest.whole ∙ length-append rest.run rest.behind in
      subst P (sym whole)
      (step d (p ∷ rest.run) rest.behind one_all (omega arith) (omega arith) (All-cons (λ q. digit_at height q.0 ≡ d) p rest.run refl rest.has) rest.apart
      (within fuel rest.behind (omega (arith, le, count)) (under_node height place (p ∷ rest.run) rest.behind one_all)))

  pub by_runs : (ps : List (ℕ × X)) → IsOneNode height place ps → P ps
  by_runs ps one = within (length ps) ps (omega arith) one
