-- Messages are read back from their layout, and what is read as one is its layout.
use Rattle.std.proofs.Common.{◌≡◌, ℕ, ◌-◌, ◌^◌, ◌<◌, ◌≤◌, List, [], ◌∷◌, ◌++◌, length, pos, Ok, refl, sym, ap, subst, ◌∙◌, arith}
use Rattle.std.specs.Prelude.{All}
use Rattle.std.specs.List.{AllByRecursion}
use Rattle.fil_base.specs.Amount.{amount}
use Rattle.fil_base.specs.declared.token.TheConstants.{GREATEST_AMOUNT}
use Rattle.fee_rules.specs.declared.fees.TheConstants.{BLOCK_GAS_LIMIT}
use Rattle.dag_cbor.specs.Plain.{IsPlain}
use Rattle.dag_cbor.specs.Spelling.{spelled}
use Rattle.dag_cbor.specs.declared.value.Value.{Value}
use Rattle.dag_cbor.specs.declared.value.Value.TheVariants as v
use Rattle.dag_cbor.proofs.Equations.{IsPlain-Blob, IsPlain-List}
use Rattle.dag_cbor.proofs.OneSpelling.{one_spelling}
use Rattle.cbor_fields.specs.Fields.{field}
use Rattle.cbor_fields.specs.Readers.{bytes_of, token_of, u64_of}
use Rattle.cbor_fields.proofs.ReadBack.{read_amount, read_bytes, read_list, read_number}
use Rattle.fil_address.specs.AddressBytes.{address}
use Rattle.fil_message.specs.Layout.{amount_value, message_spelling, message_value, number_value}
use Rattle.fil_message.specs.Reading.{fields_of, message_of}
use Rattle.fil_message.specs.Readers.{address_of, just, up_to}
use Rattle.fil_message.specs.Sound.{IsMessage}
use Rattle.fil_message.specs.declared.message.Message.{Message}
use Rattle.fil_message.proofs.FieldLaws.{address_at, address_of_again, amount_at, blob_at, items_are, just_again, just_at, list_gives, number_at, up_to_again, up_to_at}
use Rattle.fil_message.proofs.Plain.{plain_message}
use Rattle.fil_message.proofs.ReadSteps.{both_read, ok_same}

-- the fields, each laid out
abbrev items_of_message : Message → List Value
items_of_message m =
    number_value 0 ∷ v.Blob (address m.to) ∷ v.Blob (address m.from) ∷ number_value m.nonce ∷ amount_value m.value
    ∷ number_value m.limit ∷ amount_value m.cap ∷ amount_value m.premium ∷ number_value m.method ∷ v.Blob m.params ∷ []

pub message_again : (m : Message) → IsMessage m → message_of (message_value m) ≡ Ok m
unfolding message_of
message_again m is =
    rw (
      read_list (items_of_message m),
      just_again 0 (omega arith),
      address_of_again m.to is.to,
      address_of_again m.from is.from,
      up_to_again (2 ^ 64 - 2) m.nonce is.nonce (omega (arith, is.nonce)),
      read_amount m.value is.value,
      up_to_again BLOCK_GAS_LIMIT m.limit is.limit (omega (arith, is.limit)),
      read_amount m.cap is.cap,
      read_amount m.premium is.premium,
      read_number m.method is.method,
      read_bytes m.params,
    ) refl

-- the last of some items is plain
last_params : (m : Message) → IsPlain 128 (message_value m) → length m.params < 2 ^ 64
last_params m plain =
    let items = subst (λ (P : Type 0). P) (IsPlain-List 127 (items_of_message m)) plain in
    subst (λ (P : Type 0). P) (IsPlain-Blob 126 m.params) items.1.1.1.1.1.1.1.1.1.1.0

-- the fields that are read
record AreRead (items : List Value) (version : ℕ) (m : Message) : Type 0 where
  version-is : field (just 0) items 0 ≡ Ok version
  to-is : field address_of items 1 ≡ Ok m.to
  from-is : field address_of items 2 ≡ Ok m.from
  nonce-is : field (up_to (2 ^ 64 - 2)) items 3 ≡ Ok m.nonce
  value-is : field token_of items 4 ≡ Ok m.value
  limit-is : field (up_to BLOCK_GAS_LIMIT) items 5 ≡ Ok m.limit
  cap-is : field token_of items 6 ≡ Ok m.cap
  premium-is : field token_of items 7 ≡ Ok m.premium
  method-is : field u64_of items 8 ≡ Ok m.method
  params-is : field bytes_of items 9 ≡ Ok m.params

fields_are_read : (items : List Value) (version : ℕ) (m : Message) → AreRead items version m → length items ≡ 10 → All (λ byte. byte < 256) (spelled (v.List items)) → IsPlain 128 (v.List items)
    → IsMessage m × (v.List items ≡ message_value m)
fields_are_read items version m are long below plain =
    let to = address_at m.to items 1 below are.to-is in
    let from = address_at m.from items 2 below are.from-is in
    let nonce = up_to_at (2 ^ 64 - 2) m.nonce items 3 are.nonce-is in
    let value = amount_at m.value items 4 are.value-is in
    let limit = up_to_at BLOCK_GAS_LIMIT m.limit items 5 are.limit-is in
    let cap = amount_at m.cap items 6 are.cap-is in
    let premium = amount_at m.premium items 7 are.premium-is in
    let method = number_at m.method items 8 are.method-is in
    let laid : v.List items ≡ message_value m = ap v.List (items_are items (items_of_message m) long
    (just_at 0 version items 0 are.version-is, (to.0, (from.0, (nonce.0, (value.0, (limit.0, (cap.0, (premium.0, (method.0, (blob_at m.params items 9 are.params-is, tt))))))))))) in
    let short = last_params m (subst (IsPlain 128) laid plain) in
    (record { to = to.1; from = from.1; nonce = nonce.1; value = value.1; limit = limit.1; cap = cap.1; premium = premium.1; method = method.1; params = short }, laid)

read_as : (x : Value) (m : Message) → message_of x ≡ Ok m → (items : List Value) × (fields_of x 10 ≡ Ok items) × ((version : ℕ) × AreRead items version m)
unfolding message_of
read_as x m read =
    let items = both_read (fields_of x 10) _ m read in
    let version = both_read (field (just 0) items.0 0) _ m items.2 in
    let to = both_read (field address_of items.0 1) _ m version.2 in
    let from = both_read (field address_of items.0 2) _ m to.2 in
    let nonce = both_read (field (up_to (2 ^ 64 - 2)) items.0 3) _ m from.2 in
    let value = both_read (field token_of items.0 4) _ m nonce.2 in
    let limit = both_read (field (up_to BLOCK_GAS_LIMIT) items.0 5) _ m value.2 in
    let cap = both_read (field token_of items.0 6) _ m limit.2 in
    let premium = both_read (field token_of items.0 7) _ m cap.2 in
    let method = both_read (field u64_of items.0 8) _ m premium.2 in
    let params = both_read (field bytes_of items.0 9) _ m method.2 in
    let m-is : record { to = to.0; from = from.0; nonce = nonce.0; value = value.0; limit = limit.0; cap = cap.0; premium = premium.0; method = method.0; params = params.0 } ≡ m = ok_same _ _ m refl params.2 in (
      items.0,
      items.1,
      (
        version.0,
        subst (AreRead items.0 version.0) m-is record {
          version-is = version.1;
          to-is = to.1;
          from-is = from.1;
          nonce-is = nonce.1;
          value-is = value.1;
          limit-is = limit.1;
          cap-is = cap.1;
          premium-is = premium.1;
          method-is = method.1;
          params-is = params.1;
        },
      ),
    )

pub message_read : (x : Value) (m : Message) → IsPlain 128 x → All (λ byte. byte < 256) (spelled x) → message_of x ≡ Ok m → IsMessage m × (x ≡ message_value m)
message_read x m plain below read =
    let there = read_as x m read in
    let list = list_gives x 10 there.0 there.1 in
    let good = fields_are_read there.0 there.2.0 m there.2.1 list.1 (subst (λ (z : Value). All (λ byte. byte < 256) (spelled z)) list.0 below) (subst (IsPlain 128) list.0 plain) in
    (good.0, list.0 ∙ good.1)

pub one_message : (m n : Message) → IsMessage m → IsMessage n → message_spelling m ≡ message_spelling n → m ≡ n
one_message m n is-m is-n same =
    let values = (one_spelling (message_value m) (message_value n) [] [] (plain_message m is-m) (plain_message n is-n) (ap (λ (b : List ℕ). b ++ []) same)).0 in
    ok_same (message_of (message_value m)) m n (message_again m is-m) (ap message_of values ∙ message_again n is-n)
