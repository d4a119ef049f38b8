use Rattle.std.proofs.Common.{ℕ, ap, sym, ◌/◌, ◌%◌}
use Rattle.amt_map.proofs.NodePlaces.{pow-8}
use Rattle.amt_map.proofs.runs.digit_at.Goals as goal

pub returns-clause-value : goal.returns-clause-value
returns-clause-value c = ap (λ (p : ℕ). c.args.index / p % 8) (sym (pow-8 c.args.height))
