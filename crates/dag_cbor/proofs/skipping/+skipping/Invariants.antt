use Rattle.std.proofs.Common.{◌≡◌, ◌+◌, ◌-◌, ◌*◌, Some}
use Rattle.dag_cbor.specs.Reading.{item_at}
use Rattle.dag_cbor.specs.Behind.{behind_items, behind_pairs}
use Rattle.dag_cbor.proofs.skipping.+skipping.Given as goal

abbrev pub invariant-skip_items-loop : goal.invariant-skip_items-loop
invariant-skip_items-loop l = behind_items (item_at l.depth) (l.count - l.counter) l.rest ≡ behind_items (item_at l.depth) l.count l.fn.bytes

abbrev pub invariant-skip_more_pairs-loop : goal.invariant-skip_more_pairs-loop
invariant-skip_more_pairs-loop l = behind_pairs l.depth (item_at l.depth) (Some l.last) (l.count - l.counter) l.rest ≡ behind_pairs l.depth (item_at l.depth) (Some l.fn.key) l.count l.fn.bytes

abbrev pub decreases-skip_item : goal.decreases-skip_item
decreases-skip_item l = 4 * l.depth + 1

abbrev pub decreases-skip_any_item : goal.decreases-skip_any_item
decreases-skip_any_item l = 4 * l.depth

abbrev pub decreases-skip_items : goal.decreases-skip_items
decreases-skip_items l = 4 * l.depth + 2

abbrev pub decreases-skip_pairs : goal.decreases-skip_pairs
decreases-skip_pairs l = 4 * l.depth + 3

abbrev pub decreases-skip_more_pairs : goal.decreases-skip_more_pairs
decreases-skip_more_pairs l = 4 * l.depth + 2
