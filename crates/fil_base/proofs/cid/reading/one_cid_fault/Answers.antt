use Rattle.fil_base.proofs.Cids.{fault_has_no_cid, one_cid_fault}
use Rattle.fil_base.proofs.cid.reading.one_cid_fault.Goals as goal

pub returns-clause-one : goal.returns-clause-one
returns-clause-one c = one_cid_fault

pub returns-clause-no_cid : goal.returns-clause-no_cid
returns-clause-no_cid c = fault_has_no_cid
