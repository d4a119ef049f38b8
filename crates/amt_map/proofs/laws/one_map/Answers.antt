use Rattle.amt_map.specs.Stands.{Stands}
use Rattle.amt_map.proofs.Held.{one_map}
use Rattle.amt_map.proofs.laws.one_map.Goals as goal

pub returns : goal.returns
unfolding Stands
returns c = λ tree blocks m n stands-m stands-n. one_map tree.pairs m n stands-m stands-n
