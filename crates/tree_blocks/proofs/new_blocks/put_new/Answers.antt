use Rattle.std.proofs.Common.{ap, sym, ◌∙◌}
use Rattle.fil_base.specs.CidParts.{CidParts}
use Rattle.tree_blocks.proofs.NewBlocks.{digests_more}
use Rattle.tree_blocks.proofs.new_blocks.put_new.Goals as goal

pub returns-clause-seen : goal.returns-clause-seen
returns-clause-seen g c =
    digests_more c.args.seen.now.keys c.insert.new.self.keys c.args.new.now.items c.push.new.self.items c.in-Some.digest c.args.node
    c.requires.seen c.requires.node (c.in-Some.ensures ∙ ap (λ (cid : CidParts). cid.digest) c.cid.ensures.value) c.in_ok-insert.ensures.keys c.in_ok-push.ensures.items
