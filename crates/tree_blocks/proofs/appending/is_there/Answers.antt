use Rattle.std.proofs.Common.{sym, ◌∙◌, ap, ◌||◌}
use Rattle.std.specs.Prelude.{is_some}
use Rattle.cid_core.specs.BlockParts.{found}
use Rattle.tree_blocks.proofs.NewBlocks.{found_both, held_by_base, is_some-map}
use Rattle.tree_blocks.proofs.appending.is_there.Goals as goal

pub returns-then-is_some : goal.returns-then-is_some
returns-then-is_some g c =
    held_by_base (g.B.BlockSource.blocks c.args.base.now) c.args.new.now c.args.cid.now c.is_some.result
    (c.is_some.ensures ∙ sym (is_some-map (λ b. b.now) c.find.result) ∙ ap is_some c.find.ensures) c.if-is_some.true

pub returns : goal.returns
returns g c =
    let base = sym (ap is_some c.find.ensures) ∙ is_some-map (λ b. b.now) c.find.result ∙ sym c.is_some.ensures ∙ c.if-is_some.false in
    c.holds.ensures ∙ sym (found_both (g.B.BlockSource.blocks c.args.base.now) c.args.new.now c.args.cid.now ∙ ap (λ t. t || is_some (found c.args.new.now c.args.cid.now)) base)
