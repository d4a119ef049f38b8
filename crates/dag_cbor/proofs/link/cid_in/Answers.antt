use Rattle.dag_cbor.proofs.UsualLinks.{usual_linked}
use Rattle.dag_cbor.proofs.link.cid_in.Goals as goal

pub returns-in-Some : goal.returns-in-Some
returns-in-Some c = rw (usual_linked c.in-Some.codec c.args.bytes.now c.in-Some.digest.now c.in-Some.ensures.0 c.in-Some.ensures.1 c.in-Some.ensures.2) c.usual_cid.ensures
