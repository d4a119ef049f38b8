use Rattle.dag_cbor.proofs.UsualLinks.{usual_put}
use Rattle.dag_cbor.proofs.usual_link.put_usual_link.Goals as goal

pub returns : goal.returns
returns c = usual_put c.args.codec c.args.out.now.items _ _ c.args.digest.now c.requires.codec c.requires.digest c.in_ok-extend_from_slice.ensures.items c.in_ok-extend_from_slice-2.ensures.items
