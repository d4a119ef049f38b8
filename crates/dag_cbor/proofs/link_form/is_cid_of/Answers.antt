use Rattle.std.proofs.Common.{arith}
use Rattle.dag_cbor.proofs.CidForms.{version_0_judged, version_1_judged, no_version}
use Rattle.dag_cbor.proofs.link_form.is_cid_of.Goals as goal

pub returns-in-18 : goal.returns-in-18
returns-in-18 c = version_0_judged c.args.first c.args.rest.now c.is_version_0.result c.in-18.is c.is_version_0.ensures

pub returns-in-1 : goal.returns-in-1
returns-in-1 c = version_1_judged c.args.first c.args.rest.now c.is_content.result c.in-1.is c.is_content.ensures

pub returns-in_default : goal.returns-in_default
returns-in_default c = no_version c.args.first c.args.rest.now (λ is. omega arith) (λ is. omega arith)
