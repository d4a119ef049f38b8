use Rattle.std.proofs.Common.{◌≡◌, ◌+◌, ◌*◌, ◌++◌, take}
use Rattle.std.specs.List.{flat_map}
use Rattle.dag_cbor.specs.Spelling.{spelled, spelled_pair}
use Rattle.dag_cbor.proofs.encoding.+putting.Given as goal

abbrev pub invariant-put_list-loop-item : goal.invariant-put_list-loop-item
invariant-put_list-loop-item l = l.out.items ≡ l.initial.out.items ++ flat_map spelled (take l.item-index l.items)

abbrev pub invariant-put_map-loop-key : goal.invariant-put_map-loop-key
invariant-put_map-loop-key l = l.out.items ≡ l.initial.out.items ++ flat_map (λ p. spelled_pair (p.0, spelled p.1)) (take l.key-index l.pairs)

abbrev pub decreases-put_value : goal.decreases-put_value
decreases-put_value l = 2 * l.depth + 1

abbrev pub decreases-put_list : goal.decreases-put_list
decreases-put_list l = 2 * l.depth

abbrev pub decreases-put_map : goal.decreases-put_map
decreases-put_map l = 2 * l.depth
