use Rattle.std.proofs.Common.{ap}
use Rattle.amt_map.specs.Node.{amt_root}
use Rattle.amt_map.proofs.Held.{insert-insert}
use Rattle.amt_map.proofs.laws.one_order.Goals as goal

pub returns : goal.returns
returns c = record {
  map = λ m a b x y apart. insert-insert m a b x y apart;
  root = λ m a b x y apart. ap amt_root (insert-insert m a b x y apart);
}
