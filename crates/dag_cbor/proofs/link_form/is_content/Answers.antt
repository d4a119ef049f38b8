use Rattle.dag_cbor.specs.CidForm.{IsMultihash}
use Rattle.dag_cbor.proofs.CidForms.{number_judged}
use Rattle.dag_cbor.proofs.link_form.is_content.Goals as goal

pub returns-in-Some : goal.returns-in-Some
returns-in-Some c =
    number_judged (λ codec after. IsMultihash after) c.args.bytes.now c.in-Some._codec c.in-Some.multihash.now c.is_multihash.result c.in-Some.ensures.found.0 c.in-Some.ensures.found.1 c.is_multihash.ensures
