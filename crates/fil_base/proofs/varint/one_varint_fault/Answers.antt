use Rattle.fil_base.proofs.Varints.{fault_spells_none, one_varint_fault}
use Rattle.fil_base.proofs.varint.one_varint_fault.Goals as goal

pub returns-clause-one : goal.returns-clause-one
returns-clause-one c = one_varint_fault

pub returns-clause-no_number : goal.returns-clause-no_number
returns-clause-no_number c = fault_spells_none
