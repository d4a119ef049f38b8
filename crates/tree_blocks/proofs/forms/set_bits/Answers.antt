use Rattle.std.proofs.Common.{arith, get_or}
use Rattle.std.specs.Int.Count.{ones-le}
use Rattle.tree_blocks.proofs.SetBits.{set_bits_more}
use Rattle.tree_blocks.proofs.forms.set_bits.Goals as goal

pub loop-byte-preserved : goal.loop-byte-preserved
loop-byte-preserved c =
    (set_bits_more c.args.bytes.now c.loop-byte.byte-index c.loop-byte.count c.loop-byte-test.true c.loop-byte.invariant.0, omega (arith, ones-le 8 (get_or c.args.bytes.now c.loop-byte.byte-index 0) (omega (arith, c.type_inv.bytes c.loop-byte.byte-index))))
