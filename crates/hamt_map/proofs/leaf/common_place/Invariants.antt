use Rattle.std.proofs.Common.{◌≡◌, eqb, take, true}
use Rattle.std.specs.List.{list_all}
use Rattle.hamt_map.specs.Pairs.{place_on}
use Rattle.hamt_map.proofs.leaf.common_place.Given as goal

abbrev pub invariant-loop-leaf : goal.invariant-loop-leaf
invariant-loop-leaf l = list_all (λ q. eqb (place_on l.level q.0) l.place) (take l.leaf-index l.leaves) ≡ true
