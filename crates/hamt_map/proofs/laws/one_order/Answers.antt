use Rattle.std.proofs.Common.{ap}
use Rattle.hamt_map.specs.Node.{hamt_root}
use Rattle.hamt_map.proofs.Held.{insert-insert}
use Rattle.hamt_map.proofs.laws.one_order.Goals as goal

pub returns : goal.returns
returns c = record {
  map = λ m a b x y apart. insert-insert m a b x y apart;
  root = λ m a b x y apart. ap hamt_root (insert-insert m a b x y apart);
}
