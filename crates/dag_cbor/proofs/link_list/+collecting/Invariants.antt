use Rattle.std.proofs.Common.{◌≡◌, ◌++◌, take}
use Rattle.std.specs.List.{flat_map}
use Rattle.dag_cbor.specs.Links.{links_of}
use Rattle.dag_cbor.proofs.link_list.+collecting.Given as goal

abbrev pub invariant-put_links_of_items-loop-item : goal.invariant-put_links_of_items-loop-item
invariant-put_links_of_items-loop-item l = l.found.items ≡ l.initial.found.items ++ flat_map links_of (take l.item-index l.items)

abbrev pub invariant-put_links_of_pairs-loop-item : goal.invariant-put_links_of_pairs-loop-item
invariant-put_links_of_pairs-loop-item l = l.found.items ≡ l.initial.found.items ++ flat_map (λ p. links_of p.1) (take l.item-index l.pairs)
