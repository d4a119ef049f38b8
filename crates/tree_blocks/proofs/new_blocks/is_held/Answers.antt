use Rattle.std.proofs.Common.{List, ℕ, ap, sym, ◌∙◌}
use Rattle.std.specs.Prelude.{is_some}
use Rattle.std.specs.List.{list_any}
use Rattle.std.specs.Ordering.{is_eq}
use Rattle.tree_blocks.specs.NewBlocks.{digest_cmp}
use Rattle.tree_blocks.proofs.NewBlocks.{held_by_base, held_by_nodes, is_some-map}
use Rattle.tree_blocks.proofs.new_blocks.is_held.Goals as goal

pub returns-then-is_some : goal.returns-then-is_some
returns-then-is_some g c = λ nodes seen.
    held_by_base (g.B.BlockSource.blocks c.args.base.now) nodes c.args.cid.now c.is_some.result
    (c.is_some.ensures ∙ sym (is_some-map (λ b. b.now) c.find.result) ∙ ap is_some c.find.ensures) c.if-is_some.true

pub returns : goal.returns
returns g c = λ nodes seen.
    held_by_nodes (g.B.BlockSource.blocks c.args.base.now) nodes c.args.seen.now.keys c.args.cid.now c.is_some.result c.contains.result seen c.requires.node
    (c.is_some.ensures ∙ sym (is_some-map (λ b. b.now) c.find.result) ∙ ap is_some c.find.ensures) c.if-is_some.false
    (c.contains.ensures ∙ ap (λ (q : List ℕ). list_any (λ d. is_eq (digest_cmp q d)) c.args.seen.now.keys) c.requires.digest)
