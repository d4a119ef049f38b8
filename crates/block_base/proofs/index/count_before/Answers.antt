use Rattle.std.proofs.Common.{arith, sym, ◌∙◌}
use Rattle.block_base.proofs.Indexes.{before_upto, behind_from}
use Rattle.block_base.proofs.index.count_before.Goals as goal

pub loop-low-preserved-then-is_entry_before : goal.loop-low-preserved-then-is_entry_before
loop-low-preserved-then-is_entry_before c =
    (omega arith, c.loop-low.invariant.1, before_upto c.args.blocks.now c.args.index.now (c.args.cid.now, 0) _ _ c.requires (omega arith) (sym c.is_entry_before.ensures ∙ c.if-is_entry_before.true), c.loop-low.invariant.3)

pub loop-low-preserved : goal.loop-low-preserved
loop-low-preserved c =
    (omega arith, omega arith, c.loop-low.invariant.2, behind_from c.args.blocks.now c.args.index.now (c.args.cid.now, 0) _ _ c.requires (sym c.is_entry_before.ensures ∙ c.if-is_entry_before.false))
