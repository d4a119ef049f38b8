use Rattle.std.proofs.Common.{◌≡◌, take, true}
use Rattle.std.specs.FinMap.Entries.{is_sorted}
use Rattle.hamt_map.specs.Pairs.{key_cmp}
use Rattle.hamt_map.proofs.leaf.is_rising.Given as goal

abbrev pub invariant-loop-i : goal.invariant-loop-i
invariant-loop-i l = is_sorted key_cmp (take l.i l.leaves) ≡ true
