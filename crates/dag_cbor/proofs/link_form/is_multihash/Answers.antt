use Rattle.dag_cbor.specs.CidForm.{BeginsWithNumber, IsDigest}
use Rattle.dag_cbor.proofs.CidForms.{number_judged}
use Rattle.dag_cbor.proofs.link_form.is_multihash.Goals as goal

pub returns-in-Some : goal.returns-in-Some
returns-in-Some c =
    number_judged (λ hash after. BeginsWithNumber IsDigest after) c.args.bytes.now c.in-Some._hash c.in-Some.digest.now c.is_digest.result c.in-Some.ensures.found.0 c.in-Some.ensures.found.1 c.is_digest.ensures
