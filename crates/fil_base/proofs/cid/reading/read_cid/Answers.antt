use Rattle.std.proofs.lemmas.Result.{err_from_is_err_and}
use Rattle.fil_base.proofs.Cids.{fault_has_no_cid}
use Rattle.fil_base.proofs.cid.reading.read_cid.Goals as goal

pub returns-in_err-found-clause-fault : goal.returns-in_err-found-clause-fault
returns-in_err-found-clause-fault c =
    let p = err_from_is_err_and c.from_residual.result c.from_residual.ensures.1 in
    rw (p.1, p.2) (λ cid rest. fault_has_no_cid c.args.bytes.now _ cid rest c.in_err-found.ensures.fault)
