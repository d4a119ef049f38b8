use Rattle.std.proofs.Common.{sym, ◌∙◌, arith}
use Rattle.hamt_map.proofs.LeafLists.{no_rising, rising_more}
use Rattle.hamt_map.proofs.leaf.is_rising.Goals as goal

pub returns-then-not-is_before : goal.returns-then-not-is_before
returns-then-not-is_before c =
    no_rising c.args.leaves.now c.loop-i.i c.index-leaves-i.result c.index-leaves-i-in-loop-i.result c.loop-i.auto.i c.loop-i-test.true c.index-leaves-i.is c.index-leaves-i-in-loop-i.is
    (sym c.if-not-is_before.true ∙ c.is_before.ensures)

pub loop-i-preserved : goal.loop-i-preserved
loop-i-preserved c =
    rising_more c.args.leaves.now c.loop-i.i c.index-leaves-i.result c.index-leaves-i-in-loop-i.result c.loop-i.auto.i c.loop-i-test.true c.index-leaves-i.is c.index-leaves-i-in-loop-i.is
    (sym c.if-not-is_before.false ∙ c.is_before.ensures) c.loop-i.invariant
