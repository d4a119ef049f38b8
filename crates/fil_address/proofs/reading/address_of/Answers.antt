use Rattle.std.proofs.Common.{inl, inr, refl}
use Rattle.std.proofs.lemmas.Result.{err_from_is_err_and}
use Rattle.fil_address.proofs.BytesFaults.{wrong_length}
use Rattle.fil_address.proofs.reading.address_of.Goals as goal

pub returns-in_err-array_of-in-1-clause-fault : goal.returns-in_err-array_of-in-1-clause-fault
returns-in_err-array_of-in-1-clause-fault c =
    let p = err_from_is_err_and c.from_residual-in_err-array_of-in-1.result c.from_residual-in_err-array_of-in-1.ensures.1 in
    rw (p.1, p.2) (wrong_length _ 20 c.args.payload.now _ (inl (inl c.in-1.is, refl)) c.in_err-array_of-in-1.ensures.fault)

pub returns-in_err-array_of-in-2-clause-fault : goal.returns-in_err-array_of-in-2-clause-fault
returns-in_err-array_of-in-2-clause-fault c =
    let p = err_from_is_err_and c.from_residual-in_err-array_of-in-2.result c.from_residual-in_err-array_of-in-2.ensures.1 in
    rw (p.1, p.2) (wrong_length _ 20 c.args.payload.now _ (inl (inr c.in-2.is, refl)) c.in_err-array_of-in-2.ensures.fault)

pub returns-in_err-array_of-in-3-clause-fault : goal.returns-in_err-array_of-in-3-clause-fault
returns-in_err-array_of-in-3-clause-fault c =
    let p = err_from_is_err_and c.from_residual-in_err-array_of-in-3.result c.from_residual-in_err-array_of-in-3.ensures.1 in
    rw (p.1, p.2) (wrong_length _ 48 c.args.payload.now _ (inr (c.in-3.is, refl)) c.in_err-array_of-in-3.ensures.fault)
