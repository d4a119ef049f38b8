use Rattle.std.proofs.Common.{◌≡◌, drop}
use Rattle.std.specs.Prelude.{is_some}
use Rattle.tree_blocks.specs.Forms.{for_each}
use Rattle.init_names.specs.Reading.{pair_in}
use Rattle.init_names.proofs.names_tree.are_names.Given as goal

abbrev pub invariant-loop-key : goal.invariant-loop-key
invariant-loop-key l = is_some (for_each pair_in l.pairs) ≡ is_some (for_each pair_in (drop l.key-index l.pairs))
