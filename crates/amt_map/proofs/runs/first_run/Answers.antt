use Rattle.std.proofs.Common.{ℕ, List, ap, sym, subst, ◌∙◌, ◌≡◌, ◌≢◌, ◌<◌, ◌∷◌, All, drop, length, map, take}
use Rattle.amt_map.specs.Node.{groups}
use Rattle.amt_map.specs.Pairs.{digit_at}
use Rattle.amt_map.proofs.Writing.{first_run_is, first_run_below, run_some}
use Rattle.amt_map.proofs.runs.first_run.Goals as goal

some : (c : goal.After-run-1) → 0 < length c.split_at.result.0.now
some c = subst (λ (n : ℕ). 0 < n) (sym c.split_at.ensures.front_len) (run_some (λ p. digit_at c.args.height p.0) c.digit_at-digit.result c.run_length.result c.args.pairs.now _ c.requires.some c.digit_at-digit.ensures.value c.run_length.ensures.stop)

pub returns-clause-groups : goal.returns-clause-groups
returns-clause-groups c =
    let digit = c.digit_at-digit.result in
    let is = first_run_is (λ p. (p.0, p.1.now)) c.args.height c.requires.node.0 digit c.run_length.result c.args.pairs.now c.split_at.result.0.now c.split_at.result.1.now
    c.split_at.ensures.by_index.0 c.split_at.ensures.back c.requires.node.1 (some c) c.digit_at-digit.ensures.small
    (subst (All (λ p. digit_at c.args.height p.0 ≡ digit)) (sym c.split_at.ensures.front) c.run_length.ensures.run)
    (subst (λ ps. All (λ p. digit_at c.args.height p.0 ≢ digit) (take 1 ps)) (sym c.split_at.ensures.back) c.run_length.ensures.stop) in
    is ∙ ap (λ (n : ℕ). (digit, map {B = ℕ × List ℕ} (λ p. (p.0, p.1.now)) c.split_at.result.0.now) ∷ groups c.args.height (drop n (map {B = ℕ × List ℕ} (λ p. (p.0, p.1.now)) c.args.pairs.now))) (sym c.split_at.ensures.front_len)

pub returns-clause-below : goal.returns-clause-below
returns-clause-below c = λ below up.
    let digit = c.digit_at-digit.result in (
      _,
      first_run_below (λ p. (p.0, p.1.now)) c.args.height below c.requires.node.0 digit c.args.pairs.now c.split_at.result.0.now c.split_at.result.1.now up
          c.split_at.ensures.by_index.0 c.requires.node.1 (subst (All (λ p. digit_at c.args.height p.0 ≡ digit)) (sym c.split_at.ensures.front) c.run_length.ensures.run),
    )

pub returns-clause-some : goal.returns-clause-some
returns-clause-some c = some c
