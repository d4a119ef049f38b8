use Rattle.std.proofs.Common.{◌≡◌, drop}
use Rattle.std.specs.List.{list_all}
use Rattle.init_names.specs.Reading.{id_in, is_below}
use Rattle.init_names.proofs.names_tree.all_below.Given as goal

abbrev pub invariant-loop-value : goal.invariant-loop-value
invariant-loop-value l = list_all (λ p. is_below l.next (id_in p.1)) l.pairs ≡ list_all (λ p. is_below l.next (id_in p.1)) (drop l.value-index l.pairs)
