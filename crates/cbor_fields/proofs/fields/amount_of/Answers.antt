use Rattle.std.proofs.Common.{◌≤◌, sym, ap, rules}
use Rattle.fil_base.specs.declared.token.TheConstants.{GREATEST_AMOUNT}
use Rattle.cbor_fields.specs.Fields.{placed}
use Rattle.cbor_fields.proofs.Amounts.{amount_found, amount_refused}
use Rattle.cbor_fields.proofs.fields.amount_of.Goals as goal

pub returns-in-Ok : goal.returns-in-Ok
returns-in-Ok c =
    let small : c.in-Ok.token ≤ GREATEST_AMOUNT = search rules in
    sym (ap (placed c.args.at) (amount_found c.args.bytes.now c.in-Ok.token small c.in-Ok.ensures))

pub returns-in-Err : goal.returns-in-Err
returns-in-Err c = cc (ap (placed c.args.at) (amount_refused c.args.bytes.now c.in-Err.field-0 c.in-Err.ensures))
