use Rattle.std.proofs.Common.{arith}
use Rattle.dag_cbor.proofs.UsualLinks.{usual_cut}
use Rattle.dag_cbor.proofs.usual_link.behind_usual_link.Goals as goal

pub returns : goal.returns
returns c =
    let front = c.in_ok-_codec.ensures in
    rw c.split_at.ensures.back (usual_cut c.args.depth c.in_ok-_codec._codec c.args.bytes.now c.in_ok-_codec.digest.now (omega arith) front.0 (omega arith) front.1)
