use Rattle.std.proofs.Common.{◌≡◌, ℕ, suc, ◌*◌, ◌+◌, ◌^◌, ap, ◌∙◌, arith}
use Rattle.amt_map.proofs.FirstIndex.{child_place}
use Rattle.amt_map.proofs.loading.first_index.Goals as goal

pub returns-clause-place : goal.returns-clause-place
returns-clause-place c =
    let next : c.args.height + 1 ≡ suc c.args.height = omega arith in
    (c.requires.place.0 * 8 + c.args.digit, ap (λ (p : ℕ). c.args.from + c.args.digit * p) (c.pow.ensures ∙ ap (λ (n : ℕ). 8 ^ n) next) ∙ child_place c.args.height c.requires.place.0 c.args.from c.args.digit c.requires.place.1)
