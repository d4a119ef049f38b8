use Rattle.dag_cbor.specs.CidForm.{IsDigest}
use Rattle.dag_cbor.proofs.CidForms.{number_judged, short_judged, long_judged}
use Rattle.dag_cbor.proofs.link_form.is_digest.Goals as goal

pub returns-then-len-le128 : goal.returns-then-len-le128
returns-then-len-le128 c =
    number_judged IsDigest c.args.bytes.now c.in-Some.len c.in-Some.digest.now _ c.in-Some.ensures.found.0 c.in-Some.ensures.found.1 (short_judged c.in-Some.len c.in-Some.digest.now c.if-len-le128.true)

pub returns-else-len-le128 : goal.returns-else-len-le128
returns-else-len-le128 c =
    number_judged IsDigest c.args.bytes.now c.in-Some.len c.in-Some.digest.now _ c.in-Some.ensures.found.0 c.in-Some.ensures.found.1 (long_judged c.in-Some.len c.in-Some.digest.now c.if-len-le128.false)
