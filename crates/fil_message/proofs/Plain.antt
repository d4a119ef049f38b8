-- Messages and receipts have a spelling.
use Rattle.std.proofs.Common.{◌≡◌, ℕ, zero, suc, ◌-◌, ◌^◌, ◌<◌, ◌≤◌, List, [], ◌∷◌, length, pos, sym, ap, subst, lit≤, arith}
use Rattle.std.specs.Int.Digits.{digits_of}
use Rattle.std.specs.List.{AllByRecursion}
use Rattle.std.proofs.lemmas.Int.Digits.{length-digits_of-le}
use Rattle.fil_base.specs.Amount.{amount}
use Rattle.fil_base.specs.declared.token.TheConstants.{GREATEST_AMOUNT}
use Rattle.fil_base.proofs.Magnitude.{amount-positive, magnitude_start}
use Rattle.dag_cbor.specs.Plain.{IsPlain}
use Rattle.dag_cbor.specs.declared.value.Value.{Value}
use Rattle.dag_cbor.specs.declared.value.Value.TheVariants as v
use Rattle.dag_cbor.proofs.Equations.{IsPlain-Blob, IsPlain-List, IsPlain-pos}
use Rattle.fil_address.specs.AddressBytes.{IsAddress, address}
use Rattle.fil_address.specs.declared.address.Address.{Address}
use Rattle.fil_address.proofs.AddressLengths.{length-address}
use Rattle.fil_message.specs.Layout.{message_value, receipt_value}
use Rattle.fil_message.specs.Sound.{IsMessage}
use Rattle.fil_message.specs.declared.message.Message.{Message}
use Rattle.fil_message.specs.declared.receipt.Receipt.{Receipt}

plain_list : (d : ℕ) (items : List Value) → length items < 2 ^ 64 → AllByRecursion (IsPlain d) items → IsPlain (suc d) (v.List items)
plain_list d items small all = subst (λ (P : Type 0). P) (sym (IsPlain-List d items)) (small, all)

plain_blob : (d : ℕ) (bytes : List ℕ) → length bytes < 2 ^ 64 → IsPlain (suc d) (v.Blob bytes)
plain_blob d bytes small = subst (λ (P : Type 0). P) (sym (IsPlain-Blob d bytes)) small

plain_number : (d n : ℕ) → n < 2 ^ 64 → IsPlain (suc d) (v.Int (pos n))
plain_number d n small = subst (λ (P : Type 0). P) (sym (IsPlain-pos d n)) small

amount_small : (n : ℕ) → n ≤ GREATEST_AMOUNT → length (amount n) < 2 ^ 64
unfolding amount
amount_small zero small = omega arith
amount_small (suc n) small =
    let below : suc n < 256 ^ 12 = magnitude_start (suc n) small in
    let few : length (digits_of 256 (suc n)) ≤ 12 = length-digits_of-le 256 12 (suc n) (lit≤ tt) below in
    let size : length (amount (suc n)) ≡ suc (length (digits_of 256 (suc n))) = ap length (amount-positive (suc n) (omega arith)) in
    omega (arith, size, few)

plain_amount : (d n : ℕ) → n ≤ GREATEST_AMOUNT → IsPlain (suc d) (v.Blob (amount n))
plain_amount d n small = plain_blob d (amount n) (amount_small n small)

plain_address : (d : ℕ) (a : Address) → IsAddress a → IsPlain (suc d) (v.Blob (address a))
plain_address d a good = plain_blob d (address a) (omega (arith, length-address a good))

pub plain_message : (m : Message) → IsMessage m → IsPlain 128 (message_value m)
plain_message m is =
    plain_list 127 _ (omega arith) (
      plain_number 126 0 (omega arith),
      (
        plain_address 126 m.to is.to,
        (
          plain_address 126 m.from is.from,
          (
            plain_number 126 m.nonce (omega (arith, is.nonce)),
            (
              plain_amount 126 m.value is.value,
              (plain_number 126 m.limit (omega (arith, is.limit)), (plain_amount 126 m.cap is.cap, (plain_amount 126 m.premium is.premium, (plain_number 126 m.method is.method, (plain_blob 126 m.params is.params, tt))))),
            ),
          ),
        ),
      ),
    )

pub plain_receipt : (r : Receipt) → r.exit < 2 ^ 64 → length r.returned < 2 ^ 64 → r.used < 2 ^ 64 → IsPlain 128 (receipt_value r)
plain_receipt r exit returned used =
    plain_list 127 _ (omega arith) (plain_number 126 r.exit exit, (plain_blob 126 r.returned returned, (plain_number 126 r.used used, tt)))
