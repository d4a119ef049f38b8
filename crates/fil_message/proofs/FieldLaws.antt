-- The fields of messages and of account lists: what is laid out is read back, and what is read is laid out so.
use Rattle.std.proofs.Common.{◌≡◌, ℕ, zero, suc, ◌+◌, ◌-◌, ◌^◌, ◌<◌, ◌≤◌, Bool, true, leb, eqb, List, [], ◌∷◌, ◌++◌, length, map, get_or, take, drop, pos, Option, Some, None, Result, Ok, Err, refl, sym, ap, subst, ◌∙◌, arith}
use Rattle.std.specs.Prelude.{All, slice_get}
use Rattle.std.proofs.lemmas.Bool.{eqb-true, eq-eqb}
use Rattle.std.proofs.lemmas.Bool.Decides.{nat_tests}
use Rattle.std.proofs.lemmas.List.{drop_all, drop_at, drop_more, take_at}
use Rattle.std.proofs.lemmas.List.Elements.{All-drop, All-same, All-take}
use Rattle.std.proofs.lemmas.Option.{get_or_from_slice_get, slice_get_within}
use Rattle.fil_base.specs.declared.token.TheConstants.{GREATEST_AMOUNT}
use Rattle.dag_cbor.specs.Spelling.{head, joined, spelled}
use Rattle.dag_cbor.specs.declared.value.Value.{Value}
use Rattle.dag_cbor.specs.declared.value.Value.TheVariants as v
use Rattle.dag_cbor.proofs.Equations.{spelled-Blob, spelled-List}
use Rattle.cbor_fields.specs.Fields.{field}
use Rattle.cbor_fields.specs.Readers.{bytes_of, items_of, list_of, token_of, u64_of}
use Rattle.cbor_fields.specs.declared.field_fault.FieldFault.{FieldFault}
use Rattle.cbor_fields.specs.declared.field_fault.FieldKind.{FieldKind}
use Rattle.cbor_fields.specs.declared.field_fault.FieldKind.TheVariants.{OutOfRange}
use Rattle.cbor_fields.proofs.ReadBack.{read_bytes, read_list, read_number}
use Rattle.fil_address.specs.AddressBytes.{IsAddress, address}
use Rattle.fil_address.specs.AddressReading.{address_in}
use Rattle.fil_address.specs.declared.address.Address.{Address}
use Rattle.fil_address.proofs.AddressReads.{address_again, address_read}
use Rattle.fil_message.specs.Layout.{amount_value, number_value}
use Rattle.fil_message.specs.Readers.{address_of, if_read, in_range, just, up_to}
use Rattle.fil_message.specs.Reading.{fields_of}
use Rattle.fil_message.proofs.ReadSteps.{both_read}
use Rattle.fil_message.proofs.Values.{amount_read, by_test, bytes_read, field_gives, items_read, list_read, number_read, placed_gives}

-- ---- what is laid out is read back

pub just_again : (n : ℕ) → n < 2 ^ 64 → just n (v.Int (pos n)) ≡ Ok n
just_again n small = rw (read_number n small, eq-eqb n n refl) refl

pub up_to_again : (greatest n : ℕ) → n ≤ greatest → n < 2 ^ 64 → up_to greatest (v.Int (pos n)) ≡ Ok n
up_to_again greatest n within small =
    let fits : leb n greatest ≡ true = grind (arith, nat_tests) in
    rw (read_number n small, fits) refl

pub address_of_again : (a : Address) → IsAddress a → address_of (v.Blob (address a)) ≡ Ok a
address_of_again a good = rw (read_bytes (address a), address_again a good) refl

-- ---- what is read is laid out so

just_read : (expected n : ℕ) (x : Value) → just expected x ≡ Ok n → x ≡ v.Int (pos expected)
just_read expected n x read =
    let there = both_read (u64_of x) _ n read in
    let tests = by_test (eqb there.0 expected) there.0 n OutOfRange there.2 in
    (number_read x there.0 there.1).0 ∙ ap (λ (k : ℕ). v.Int (pos k)) (eqb-true there.0 expected tests.0)

up_to_read : (greatest n : ℕ) (x : Value) → up_to greatest x ≡ Ok n → (x ≡ v.Int (pos n)) × (n ≤ greatest)
up_to_read greatest n x read =
    let there = both_read (u64_of x) _ n read in
    let tests = by_test (leb there.0 greatest) there.0 n OutOfRange there.2 in
    let within : there.0 ≤ greatest = grind (arith, nat_tests, tests.0) in
    ((number_read x there.0 there.1).0 ∙ ap (λ (k : ℕ). v.Int (pos k)) tests.1, subst (λ k. k ≤ greatest) tests.1 within)

in_range_gives : (o : Option Address) (a : Address) → in_range o ≡ Ok a → o ≡ Some a
in_range_gives (Some b) a is = (let same : b ≡ a = cc in ap Some same)
in_range_gives None a is = absurd (cc)

-- an address of bytes
address_of_read : (a : Address) (x : Value) → address_of x ≡ Ok a → ((bytes : List ℕ) → x ≡ v.Blob bytes → All (λ byte. byte < 256) bytes) → (x ≡ v.Blob (address a)) × IsAddress a
address_of_read a x read below =
    let there = both_read (bytes_of x) _ a read in
    let blob = bytes_read x there.0 there.1 in
    let good = address_read there.0 a (below there.0 blob) (in_range_gives (address_in there.0) a there.2) in
    (blob ∙ ap v.Blob good.1, good.0)

pub list_gives : (x : Value) (len : ℕ) (items : List Value) → fields_of x len ≡ Ok items → (x ≡ v.List items) × (length items ≡ len)
list_gives x len items read = list_read x len items (placed_gives 0 (list_of x len) items read)

-- ---- the items that are read

pub just_at : (expected n : ℕ) (items : List Value) (at : ℕ) → field (just expected) items at ≡ Ok n → slice_get items at ≡ Some (number_value expected)
just_at expected n items at read =
    let there = field_gives (just expected) items at n read in
    there.1 ∙ ap Some (just_read expected n there.0 there.2)

pub up_to_at : (greatest n : ℕ) (items : List Value) (at : ℕ) → field (up_to greatest) items at ≡ Ok n → (slice_get items at ≡ Some (number_value n)) × (n ≤ greatest)
up_to_at greatest n items at read =
    let there = field_gives (up_to greatest) items at n read in
    let is = up_to_read greatest n there.0 there.2 in
    (there.1 ∙ ap Some is.0, is.1)

pub number_at : (n : ℕ) (items : List Value) (at : ℕ) → field u64_of items at ≡ Ok n → (slice_get items at ≡ Some (number_value n)) × (n < 2 ^ 64)
number_at n items at read =
    let there = field_gives u64_of items at n read in
    let is = number_read there.0 n there.2 in
    (there.1 ∙ ap Some is.0, is.1)

pub amount_at : (n : ℕ) (items : List Value) (at : ℕ) → field token_of items at ≡ Ok n → (slice_get items at ≡ Some (amount_value n)) × (n ≤ GREATEST_AMOUNT)
amount_at n items at read =
    let there = field_gives token_of items at n read in
    let is = amount_read there.0 n there.2 in
    (there.1 ∙ ap Some is.0, is.1)

pub blob_at : (bytes : List ℕ) (items : List Value) (at : ℕ) → field bytes_of items at ≡ Ok bytes → slice_get items at ≡ Some (v.Blob bytes)
blob_at bytes items at read =
    let there = field_gives bytes_of items at bytes read in
    there.1 ∙ ap Some (bytes_read there.0 bytes there.2)

pub list_at : (listed items : List Value) (at : ℕ) → field items_of items at ≡ Ok listed → slice_get items at ≡ Some (v.List listed)
list_at listed items at read =
    let there = field_gives items_of items at listed read in
    there.1 ∙ ap Some (items_read there.0 listed there.2)

-- ---- the items of a list

-- the items from a place on
abbrev pub Stand : List Value → ℕ → List Value → Type 0
Stand items i [] = Unit {0}
Stand items i (x ∷ xs) = (slice_get items i ≡ Some x) × Stand items (i + 1) xs

rest_are : (items : List Value) (i : ℕ) (xs : List Value) → length items ≡ i + length xs → Stand items i xs → drop i items ≡ xs
rest_are items i [] long stand = drop_all i items (omega arith)
rest_are items i (x ∷ xs) long (first, stand) =
    drop_more items i x (slice_get_within items i x first)
    ∙ (λ k. get_or_from_slice_get items i x x first k ∷ rest_are items (i + 1) xs (omega arith) stand k)

pub items_are : (items xs : List Value) → length items ≡ length xs → Stand items 0 xs → items ≡ xs
items_are items xs long stand = rest_are items 0 xs (omega arith) stand

-- ---- bytes of a spelling

left_bytes : (xs ys : List ℕ) → All (λ byte. byte < 256) (xs ++ ys) → All (λ byte. byte < 256) xs
left_bytes xs ys all = subst (λ (bytes : List ℕ). All (λ byte. byte < 256) bytes) (take_at xs ys (length xs) refl) (All-take (λ byte. byte < 256) (length xs) (xs ++ ys) all)

right_bytes : (xs ys : List ℕ) → All (λ byte. byte < 256) (xs ++ ys) → All (λ byte. byte < 256) ys
right_bytes xs ys all = subst (λ (bytes : List ℕ). All (λ byte. byte < 256) bytes) (drop_at xs ys (length xs) refl) (All-drop (λ byte. byte < 256) (length xs) (xs ++ ys) all)

bytes_at : (items : List Value) (i : ℕ) (x : Value) → slice_get items i ≡ Some x → All (λ byte. byte < 256) (joined (map spelled items)) → All (λ byte. byte < 256) (spelled x)
bytes_at [] i x is all = absurd (cc)
bytes_at (y ∷ items) zero x is all =
    let same : y ≡ x = cc in
    subst (λ (z : Value). All (λ byte. byte < 256) (spelled z)) same (left_bytes (spelled y) (joined (map spelled items)) all)
bytes_at (y ∷ items) (suc i) x is all = bytes_at items i x is (right_bytes (spelled y) (joined (map spelled items)) all)

-- a byte string in a list whose spelling is bytes
bytes_within : (items : List Value) (i : ℕ) (x : Value) (bytes : List ℕ) → All (λ byte. byte < 256) (spelled (v.List items)) → slice_get items i ≡ Some x → x ≡ v.Blob bytes → All (λ byte. byte < 256) bytes
bytes_within items i x bytes all at is =
    let parts = right_bytes (head 4 (length items)) (joined (map spelled items)) (subst (λ (b : List ℕ). All (λ byte. byte < 256) b) (spelled-List items) all) in
    let own = subst (λ (b : List ℕ). All (λ byte. byte < 256) b) (ap spelled is ∙ spelled-Blob bytes) (bytes_at items i x at parts) in
    right_bytes (head 2 (length bytes)) bytes own

pub address_at : (a : Address) (items : List Value) (at : ℕ) → All (λ byte. byte < 256) (spelled (v.List items)) → field address_of items at ≡ Ok a
    → (slice_get items at ≡ Some (v.Blob (address a))) × IsAddress a
address_at a items at below read =
    let there = field_gives address_of items at a read in
    let is = address_of_read a there.0 there.2 (λ bytes blob. bytes_within items at there.0 bytes below there.1 blob) in
    (there.1 ∙ ap Some is.0, is.1)
