use Rattle.std.proofs.Common.{◌∙◌, ap, sym, subst}
use Rattle.cid_core.proofs.Digests.{IsBlock-block_of}
use Rattle.cid_core.specs.BlockParts.{IsBlock}
use Rattle.cid_core.specs.CidOf.{cid_of}
use Rattle.cid_core.proofs.block.Block.of.Goals as goal

pub invariant_of-result : goal.invariant_of-result
invariant_of-result c =
    let same = c.in_ok-cid.ensures ∙ ap (cid_of c.args.codec) c.as_slice.ensures in
    subst (λ cid. IsBlock record { cid = cid; bytes = c.args.bytes }) (sym same) (IsBlock-block_of c.args.codec c.args.bytes c.requires)
