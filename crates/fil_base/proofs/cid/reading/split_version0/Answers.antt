use Rattle.std.proofs.Common.{take, drop, ap, ◌∙◌}
use Rattle.fil_base.proofs.Cids.{found_0}
use Rattle.fil_base.proofs.cid.reading.split_version0.Goals as goal

pub returns-clause-found : goal.returns-clause-found
returns-clause-found c =
    found_0 c.args.bytes.now _ _ c.requires c.if-bytes-lt34.false (c.split_at-2.ensures.front ∙ ap (take 32) c.split_at.ensures.back) (c.split_at-2.ensures.back ∙ ap (drop 32) c.split_at.ensures.back)
