use Rattle.std.proofs.Common.{◌≡◌, ◌<◌, ◌^◌, length, rules, subst, sym}
use Rattle.dag_cbor.specs.Plain.{IsPlain}
use Rattle.dag_cbor.specs.declared.value.Value.TheVariants as v
use Rattle.fil_message.specs.Layout.{receipt_value}
use Rattle.tipset_exec.proofs.ReceiptPlaces.{plain_receipt}
use Rattle.tipset_exec.proofs.receipts.receipt_value.Goals as goal

pub returns-clause-plain : goal.returns-clause-plain
returns-clause-plain c =
    let r = c.args.receipt.now in
    let made : v.List c.from_vec.result ≡ receipt_value r = search rules in
    let exit : r.exit < 2 ^ 64 = search rules in
    let returned : length r.returned < 2 ^ 64 = search rules in
    let used : r.used < 2 ^ 64 = search rules in
    subst (IsPlain 120) (sym made) (plain_receipt 118 r exit returned used)
