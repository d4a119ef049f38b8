use Rattle.dag_cbor.proofs.CidForms.{cid_judged, no_cid_in_none}
use Rattle.dag_cbor.proofs.link_form.is_cid.Goals as goal

pub returns-in-Some : goal.returns-in-Some
returns-in-Some c = cid_judged c.args.bytes.now c.in-Some.first.now c.in-Some.rest.now c.is_cid_of.result c.in-Some.ensures.cases.0 c.is_cid_of.ensures

pub returns-in-None : goal.returns-in-None
returns-in-None c = no_cid_in_none c.args.bytes.now c.in-None.ensures.cases
