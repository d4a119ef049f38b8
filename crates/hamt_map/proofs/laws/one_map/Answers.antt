use Rattle.hamt_map.specs.Stands.{Stands}
use Rattle.hamt_map.proofs.Over.{over_one}
use Rattle.hamt_map.proofs.laws.one_map.Goals as goal

pub returns : goal.returns
unfolding Stands
returns c = λ tree blocks m n a b. over_one blocks tree.root tree.pairs a.0 a.1 b.0 b.1 m n a.2 a.3 a.4 b.2 b.3 b.4
