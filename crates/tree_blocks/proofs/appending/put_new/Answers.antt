use Rattle.std.proofs.Common.{◌≡◌, sym, ◌∙◌, ap, cond, ◌++◌, ◌∷◌, []}
use Rattle.std.specs.Prelude.{is_some}
use Rattle.cid_core.specs.BlockParts.{found}
use Rattle.tree_blocks.proofs.PutNew.{new_blocks_push}
use Rattle.tree_blocks.proofs.appending.put_new.Goals as goal

pub returns-then-is_there-clause-after : goal.returns-then-is_there-clause-after
returns-then-is_there-clause-after g c =
    let there : c.is_there.result ≡ is_some (found (g.B.BlockSource.blocks c.args.base.now ++ c.args.new.now.items) c.args.block.cid) =
    c.is_there.ensures ∙ (λ i. is_some (found (g.B.BlockSource.blocks c.args.base.now ++ c.deref.ensures.value i) (c.cid.ensures.value i))) in
    sym (ap (λ t. cond t c.args.new.now.items (c.args.new.now.items ++ c.args.block ∷ [])) (sym there ∙ c.if-is_there.true))

pub returns-then-is_there-clause-new : goal.returns-then-is_there-clause-new
returns-then-is_there-clause-new g c = λ blocks same.
    new_blocks_push (g.B.BlockSource.blocks c.args.base.now) blocks c.args.new.now.items c.args.new.now.items c.args.block same (returns-then-is_there-clause-after g c)

pub returns-clause-after : goal.returns-clause-after
returns-clause-after g c =
    let there : c.is_there.result ≡ is_some (found (g.B.BlockSource.blocks c.args.base.now ++ c.args.new.now.items) c.args.block.cid) =
    c.is_there.ensures ∙ (λ i. is_some (found (g.B.BlockSource.blocks c.args.base.now ++ c.deref.ensures.value i) (c.cid.ensures.value i))) in
    c.in_ok-push.ensures.items ∙ sym (ap (λ t. cond t c.args.new.now.items (c.args.new.now.items ++ c.args.block ∷ [])) (sym there ∙ c.if-is_there.false))

pub returns-clause-new : goal.returns-clause-new
returns-clause-new g c = λ blocks same.
    new_blocks_push (g.B.BlockSource.blocks c.args.base.now) blocks c.args.new.now.items c.push.new.self.items c.args.block same (returns-clause-after g c)
