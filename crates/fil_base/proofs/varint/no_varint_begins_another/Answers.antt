use Rattle.fil_base.proofs.Varints.{same_varints}
use Rattle.fil_base.proofs.varint.no_varint_begins_another.Goals as goal

pub returns : goal.returns
returns c = same_varints
