use Rattle.std.proofs.Common.{arith, refl, sym, ◌∙◌}
use Rattle.scenario_form.proofs.Rooms.{between_last, fits_more, full_less}
use Rattle.scenario_form.proofs.room.first_over.Goals as goal

pub loop-high-preserved-then-branch-2 : goal.loop-high-preserved-then-branch-2
loop-high-preserved-then-branch-2 c =
    fits_more c.args.tree.now c.args.base.now c.args.tipsets.now _ c.loop-high.low _ c.loop-high.high c.loop-high.invariant (omega arith) (omega arith) refl
    (λ s stands. sym c.if-branch-2.true ∙ c.in_ok-all_fit-2.ensures s stands)

pub loop-high-preserved : goal.loop-high-preserved
loop-high-preserved c =
    full_less c.args.tree.now c.args.base.now c.args.tipsets.now _ c.loop-high.low _ c.loop-high.high c.loop-high.invariant (omega arith) (omega arith) refl
    (λ s stands. sym c.if-branch-2.false ∙ c.in_ok-all_fit-2.ensures s stands)

pub returns : goal.returns
returns c = λ s stands. between_last c.args.tree.now c.args.base.now c.args.tipsets.now c.loop-high.low c.loop-high.high s c.loop-high.invariant (omega arith) stands
