-- How many bytes numbers, amounts and messages have.
use Rattle.std.proofs.Common.{◌≡◌, ℕ, ◌+◌, ◌/◌, ◌^◌, ◌<◌, ◌≤◌, List, [], ◌∷◌, length, map, refl, ap, subst, ◌∙◌, lit≤, arith}
use Rattle.std.specs.Int.Digits.{digits_of}
use Rattle.std.proofs.lemmas.Int.Digits.{length-digits_of-le, length-digits_of_step}
use Rattle.std.proofs.lemmas.List.{length-append}
use Rattle.fil_base.specs.Amount.{amount}
use Rattle.fil_base.specs.Varint.{varint}
use Rattle.fil_base.specs.declared.token.TheConstants.{GREATEST_AMOUNT}
use Rattle.fil_base.proofs.Magnitude.{amount-positive}
use Rattle.fil_base.proofs.Varints.{varint-more, varint-small}
use Rattle.fil_address.specs.AddressBytes.{IsAddress, address}
use Rattle.fil_address.specs.declared.address.Address.{Address}
use Rattle.fil_address.specs.declared.address.Address.TheVariants.{Bls, Id, Made, Secp}
use Rattle.fil_address.proofs.AddressLengths.{length-address}
use Rattle.dag_cbor.specs.Spelling.{head, joined, spelled}
use Rattle.dag_cbor.specs.declared.value.Value.{Value}
use Rattle.dag_cbor.specs.declared.value.Value.TheVariants as v
use Rattle.dag_cbor.proofs.Equations.{spelled-Blob, spelled-List, spelled-pos}
use Rattle.fil_message.specs.Layout.{amount_value, message_spelling, number_value}
use Rattle.fil_message.specs.declared.message.Message.{Message}

-- ---- numbers of varying length

pub varint_short : (n : ℕ) → n < 2 ^ 63 → length (varint n) ≤ 48
unfolding address
varint_short n small = omega (arith, length-address (Id n) small)

pub varint_last : (n : ℕ) → n < 128 → length (varint n) ≡ 1
varint_last n small = ap length (varint-small n small)

pub varint_longer : (n : ℕ) → 128 ≤ n → length (varint n) ≡ 1 + length (varint (n / 128))
varint_longer n great = omega (arith, ap length (varint-more n great))

-- ---- addresses

pub id_length : (a : Address) (id : ℕ) → a ≡ Id id → 1 + length (varint id) ≡ length (address a)
unfolding address
id_length a id is = omega (arith, ap (λ (x : Address). length (address x)) is)

pub secp_length : (a : Address) (hash : List ℕ) → a ≡ Secp hash → IsAddress a → 21 ≡ length (address a)
unfolding address
secp_length a hash is good = let bytes = subst IsAddress is good in omega (arith, bytes.0, ap (λ (x : Address). length (address x)) is)

pub made_length : (a : Address) (hash : List ℕ) → a ≡ Made hash → IsAddress a → 21 ≡ length (address a)
unfolding address
made_length a hash is good = let bytes = subst IsAddress is good in omega (arith, bytes.0, ap (λ (x : Address). length (address x)) is)

pub bls_length : (a : Address) (key : List ℕ) → a ≡ Bls key → IsAddress a → 49 ≡ length (address a)
unfolding address
bls_length a key is good = let bytes = subst IsAddress is good in omega (arith, bytes.0, ap (λ (x : Address). length (address x)) is)

-- ---- amounts

pub digits_none : length (digits_of 256 0) ≡ 0
digits_none = refl

pub digits_short : (n : ℕ) → n ≤ GREATEST_AMOUNT → length (digits_of 256 n) ≤ 12
digits_short n small =
    let below : n < 256 ^ 12 = omega (arith, small) in
    length-digits_of-le 256 12 n (lit≤ tt) below

pub digits_longer : (n : ℕ) → 0 < n → length (digits_of 256 n) ≡ 1 + length (digits_of 256 (n / 256))
digits_longer n positive = omega (arith, length-digits_of_step 256 n (lit≤ tt) positive)

pub amount_length : (n : ℕ) → 0 < n → length (amount n) ≡ 1 + length (digits_of 256 n)
amount_length n positive = omega (arith, ap length (amount-positive n positive))

pub amount_none : length (amount 0) ≡ 0
unfolding amount
amount_none = refl

-- ---- the items of a message

number_length : (n : ℕ) → length (spelled (number_value n)) ≡ length (head 0 n)
number_length n = ap length (spelled-pos n)

string_length : (bytes : List ℕ) → length (spelled (v.Blob bytes)) ≡ length (head 2 (length bytes)) + length bytes
string_length bytes = ap length (spelled-Blob bytes) ∙ length-append (head 2 (length bytes)) bytes

-- the length of the items of a list
abbrev total : List Value → ℕ
total [] = 0
total (x ∷ xs) = length (spelled x) + total xs

joined_length : (xs : List Value) → length (joined (map spelled xs)) ≡ total xs
joined_length [] = refl
joined_length (x ∷ xs) = length-append (spelled x) (joined (map spelled xs)) ∙ ap (λ (n : ℕ). length (spelled x) + n) (joined_length xs)

list_length : (xs : List Value) → length (spelled (v.List xs)) ≡ length (head 4 (length xs)) + total xs
list_length xs =
    ap length (spelled-List xs) ∙ length-append (head 4 (length xs)) (joined (map spelled xs)) ∙ ap (λ (n : ℕ). length (head 4 (length xs)) + n) (joined_length xs)

-- the heads of a list of ten and of the version
ten_head : length (head 4 10) ≡ 1
unfolding head
ten_head = refl

version_head : length (head 0 0) ≡ 1
unfolding head
version_head = refl

abbrev head_of : ℕ → ℕ
head_of n = length (head 0 n)

abbrev string_of : List ℕ → ℕ
string_of bytes = length (head 2 (length bytes)) + length bytes

pub message_length : (m : Message) → length (message_spelling m)
    ≡ 2 + string_of (address m.to) + string_of (address m.from) + head_of m.nonce + string_of (amount m.value) + head_of m.limit + string_of (amount m.cap) + string_of (amount m.premium)
    + head_of m.method + string_of m.params
message_length m =
    list_length (
    number_value 0 ∷ v.Blob (address m.to) ∷ v.Blob (address m.from) ∷ number_value m.nonce ∷ amount_value m.value ∷ number_value m.limit ∷ amount_value m.cap ∷ amount_value m.premium
    ∷ number_value m.method ∷ v.Blob m.params ∷ []
    )
    ∙ omega (
      arith,
      ten_head,
      version_head,
      number_length 0,
      string_length (address m.to),
      string_length (address m.from),
      number_length m.nonce,
      string_length (amount m.value),
      number_length m.limit,
      string_length (amount m.cap),
      string_length (amount m.premium),
      number_length m.method,
      string_length m.params,
    )

pub string_is : (result len : ℕ) (bytes : List ℕ) → result ≡ length (head 2 len) + len → len ≡ length bytes → result ≡ length (head 2 (length bytes)) + length bytes
string_is result len bytes is same = is ∙ ap (λ (n : ℕ). length (head 2 n) + n) same
