use Rattle.std.proofs.Common.{◌≡◌, ◌<◌, ◌^◌, length, rules, subst, sym}
use Rattle.dag_cbor.specs.Plain.{IsPlain}
use Rattle.dag_cbor.specs.declared.value.Value.TheVariants as v
use Rattle.fil_message.specs.Layout.{receipt_value}
use Rattle.fil_message.proofs.Plain.{plain_receipt}
use Rattle.fil_message.proofs.codec.receipt_bytes.Goals as goal

pub encode-requires : goal.encode-requires
encode-requires c =
    let r = c.args.receipt.now in
    let made : v.List c.from_vec.result ≡ receipt_value r = search rules in
    let exit : r.exit < 2 ^ 64 = search rules in
    let returned : length r.returned < 2 ^ 64 = search rules in
    let used : r.used < 2 ^ 64 = search rules in
    subst (IsPlain 128) (sym made) (plain_receipt r exit returned used)
