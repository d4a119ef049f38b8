use Rattle.std.proofs.lemmas.Result.{err_from_is_err_and}
use Rattle.fil_address.proofs.TextFaults.{letters_fail}
use Rattle.fil_address.proofs.parsing.address_in.Goals as goal

pub returns-in_err-bytes-clause-fault : goal.returns-in_err-bytes-clause-fault
returns-in_err-bytes-clause-fault c =
    let p = err_from_is_err_and c.from_residual.result c.from_residual.ensures.1 in
    rw (p.1, p.2) (letters_fail c.args.protocol c.args.text.now _ c.requires.low c.requires.high c.in_err-bytes.ensures.fault)
