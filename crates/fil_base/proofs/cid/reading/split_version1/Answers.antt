use Rattle.std.proofs.lemmas.Result.{err_from_is_err_and}
use Rattle.fil_base.proofs.Cids.{fault_1, found_1}
use Rattle.fil_base.proofs.cid.reading.split_version1.Goals as goal

pub returns-in_err-digest-clause-fault : goal.returns-in_err-digest-clause-fault
returns-in_err-digest-clause-fault c =
    let p = err_from_is_err_and c.from_residual-in_err-digest.result c.from_residual-in_err-digest.ensures.1 in
    rw (p.1, p.2) (fault_1 c.args.bytes.now _ _ _ _ _ _ _ c.if-version-ne1.false c.in_ok-version.ensures.small c.in_ok-version.ensures.found c.in_ok-codec.ensures.small c.in_ok-codec.ensures.found c.in_ok-hash.ensures.small c.in_ok-hash.ensures.found c.in_err-digest.ensures.fault)

pub returns-clause-found : goal.returns-clause-found
returns-clause-found c =
    found_1 c.args.bytes.now _ _ _ _ _ _ _ _ c.if-version-ne1.false c.in_ok-version.ensures.found c.in_ok-codec.ensures.small c.in_ok-codec.ensures.found c.in_ok-hash.ensures.small c.in_ok-hash.ensures.found c.in_ok-digest.ensures.short c.in_ok-digest.ensures.found
