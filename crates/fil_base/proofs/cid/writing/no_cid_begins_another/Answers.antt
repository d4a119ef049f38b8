use Rattle.fil_base.proofs.Cids.{same_cids}
use Rattle.fil_base.proofs.cid.writing.no_cid_begins_another.Goals as goal

pub returns : goal.returns
returns c = same_cids
