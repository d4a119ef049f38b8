use Rattle.std.proofs.Common.{◌≡◌, ◌≤◌, ◌*◌, take}
use Rattle.tree_blocks.specs.Forms.{set_bits}
use Rattle.tree_blocks.proofs.forms.set_bits.Given as goal

abbrev pub invariant-loop-byte : goal.invariant-loop-byte
invariant-loop-byte l = (l.count ≡ set_bits (take l.byte-index l.bytes)) × (l.count ≤ 8 * l.byte-index)
