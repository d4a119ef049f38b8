use Rattle.fil_base.proofs.Varints.{fault_spells_none}
use Rattle.dag_cbor.proofs.link_form.number_of.Goals as goal

pub returns-in-Err-clause-none : goal.returns-in-Err-clause-none
returns-in-Err-clause-none c = λ n rest small is. fault_spells_none c.args.bytes.now c.in-Err.field-0 n rest c.in-Err.ensures small is
