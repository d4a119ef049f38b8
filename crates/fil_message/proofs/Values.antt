-- The value that was read.
use Rattle.std.proofs.Common.{◌≡◌, ℕ, ℤ, ◌^◌, ◌<◌, ◌≤◌, List, Bool, true, false, cond, ◌&&◌, length, pos, negsuc, Option, Some, None, Result, Ok, Err, ltb, leb, eqb, refl, sym, ap, subst, ◌∙◌, arith}
use Rattle.std.specs.Prelude.{slice_get}
use Rattle.std.specs.Int.Digits.{number_from_digits}
use Rattle.std.specs.Str.{bytes_eq}
use Rattle.std.specs.Cmp.Lexicographic.{bytes_decides}
use Rattle.std.proofs.lemmas.Bool.{and_parts, eqb-true, ltb-true}
use Rattle.std.proofs.lemmas.Bool.Decides.{nat_tests}
use Rattle.fil_base.specs.Amount.{amount}
use Rattle.fil_base.specs.declared.token.TheConstants.{GREATEST_AMOUNT}
use Rattle.dag_cbor.specs.declared.value.Value.{Value, Value-F, out-Value, roll-Value, roll-out-Value}
use Rattle.dag_cbor.specs.declared.value.Value.TheOpen as layer
use Rattle.dag_cbor.specs.declared.value.Value.TheVariants as v
use Rattle.cbor_fields.specs.Fields.{field, item_read, placed}
use Rattle.cbor_fields.specs.Readers.{amount_of, bytes_layer, bytes_of, items_layer, items_of, list_layer, list_of, token_layer, token_of, u64_layer, u64_of}
use Rattle.cbor_fields.specs.declared.field_fault.FieldKind.{FieldKind}
use Rattle.cbor_fields.specs.declared.field_fault.FieldKind.TheVariants.{OutOfRange, WrongLength}

pub placed_gives : {X : Type 0} (at : ℕ) (r : Result X FieldKind) (x : X) → placed at r ≡ Ok x → r ≡ Ok x
placed_gives at (Ok y) x is = let same : y ≡ x = cc in ap Ok same
placed_gives at (Err kind) x is = absurd (cc)

item_gives : {X : Type 0} (read : Value → Result X FieldKind) (o : Option Value) (x : X) → item_read read o ≡ Ok x → (value : Value) × (o ≡ Some value) × (read value ≡ Ok x)
item_gives read None x is = absurd (cc)
item_gives read (Some value) x is = (value, refl, is)

-- the item at a place that was read
pub field_gives : {X : Type 0} (read : Value → Result X FieldKind) (items : List Value) (at : ℕ) (x : X) → field read items at ≡ Ok x
    → (value : Value) × (slice_get items at ≡ Some value) × (read value ≡ Ok x)
field_gives read items at x is = item_gives read (slice_get items at) x (placed_gives at _ x is)

pub by_test : {X E : Type 0} (t : Bool) (y x : X) (e : E) → cond t (Ok y) (Err e) ≡ Ok x → (t ≡ true) × (y ≡ x)
by_test true y x e is = (refl, cc)
by_test false y x e is = absurd (cc)

-- a number
number_layer : (l : Value-F Value) (x : Value) (n : ℕ) → roll-Value l ≡ x → u64_layer l ≡ Ok n → (x ≡ v.Int (pos n)) × (n < 2 ^ 64)
number_layer layer.Null x n is read = absurd (cc)
number_layer (layer.Bool b) x n is read = absurd (cc)
number_layer (layer.Int (pos m)) x n is read =
    let both = by_test (ltb m (2 ^ 64)) m n OutOfRange read in
    let small : m < 2 ^ 64 = grind (arith, nat_tests, both.0) in
    (sym is ∙ v.rolls-Int (pos m) ∙ ap (λ (k : ℕ). v.Int (pos k)) both.1, subst (λ k. k < 2 ^ 64) both.1 small)
number_layer (layer.Int (negsuc m)) x n is read = absurd (cc)
number_layer (layer.Blob bytes) x n is read = absurd (cc)
number_layer (layer.Text bytes) x n is read = absurd (cc)
number_layer (layer.List items) x n is read = absurd (cc)
number_layer (layer.Map pairs) x n is read = absurd (cc)
number_layer (layer.Link cid) x n is read = absurd (cc)

pub number_read : (x : Value) (n : ℕ) → u64_of x ≡ Ok n → (x ≡ v.Int (pos n)) × (n < 2 ^ 64)
number_read x n read = number_layer (out-Value x) x n (roll-out-Value x) read

-- an amount
amount_bytes : (bytes : List ℕ) (n : ℕ) → amount_of bytes ≡ Ok n → (bytes ≡ amount n) × (n ≤ GREATEST_AMOUNT)
unfolding amount_of
amount_bytes bytes n read = by (number_from_digits 256 bytes) read where
  by : (m : ℕ) → cond (bytes_eq bytes (amount m) && leb m GREATEST_AMOUNT) (Ok m) (Err OutOfRange) ≡ Ok n → (bytes ≡ amount n) × (n ≤ GREATEST_AMOUNT)
  by m is =
      let both = by_test (bytes_eq bytes (amount m) && leb m GREATEST_AMOUNT) m n OutOfRange is in
      let tests = and_parts (bytes_eq bytes (amount m)) (leb m GREATEST_AMOUNT) both.0 in
      let small : m ≤ GREATEST_AMOUNT = grind (arith, nat_tests, tests.1) in
      ((bytes_decides bytes (amount m)).0 tests.0 ∙ ap amount both.1, subst (λ k. k ≤ GREATEST_AMOUNT) both.1 small)

-- a byte string
blob_layer : (l : Value-F Value) (x : Value) (bytes : List ℕ) → roll-Value l ≡ x → bytes_layer l ≡ Ok bytes → x ≡ v.Blob bytes
blob_layer layer.Null x bytes is read = absurd (cc)
blob_layer (layer.Bool b) x bytes is read = absurd (cc)
blob_layer (layer.Int m) x bytes is read = absurd (cc)
blob_layer (layer.Blob others) x bytes is read = (let same : others ≡ bytes = cc in sym is ∙ v.rolls-Blob others ∙ ap v.Blob same)
blob_layer (layer.Text others) x bytes is read = absurd (cc)
blob_layer (layer.List items) x bytes is read = absurd (cc)
blob_layer (layer.Map pairs) x bytes is read = absurd (cc)
blob_layer (layer.Link cid) x bytes is read = absurd (cc)

pub bytes_read : (x : Value) (bytes : List ℕ) → bytes_of x ≡ Ok bytes → x ≡ v.Blob bytes
bytes_read x bytes read = blob_layer (out-Value x) x bytes (roll-out-Value x) read

token_bytes : (l : Value-F Value) (n : ℕ) → token_layer l ≡ Ok n → (bytes : List ℕ) × (bytes_layer l ≡ Ok bytes) × (amount_of bytes ≡ Ok n)
token_bytes layer.Null n read = absurd (cc)
token_bytes (layer.Bool b) n read = absurd (cc)
token_bytes (layer.Int m) n read = absurd (cc)
token_bytes (layer.Blob bytes) n read = (bytes, refl, read)
token_bytes (layer.Text bytes) n read = absurd (cc)
token_bytes (layer.List items) n read = absurd (cc)
token_bytes (layer.Map pairs) n read = absurd (cc)
token_bytes (layer.Link cid) n read = absurd (cc)

pub amount_read : (x : Value) (n : ℕ) → token_of x ≡ Ok n → (x ≡ v.Blob (amount n)) × (n ≤ GREATEST_AMOUNT)
amount_read x n read =
    let there = token_bytes (out-Value x) n read in
    let both = amount_bytes there.0 n there.2 in
    (bytes_read x there.0 there.1 ∙ ap v.Blob both.0, both.1)

-- a list
any_layer : (l : Value-F Value) (x : Value) (items : List Value) → roll-Value l ≡ x → items_layer l ≡ Ok items → x ≡ v.List items
any_layer layer.Null x items is read = absurd (cc)
any_layer (layer.Bool b) x items is read = absurd (cc)
any_layer (layer.Int m) x items is read = absurd (cc)
any_layer (layer.Blob bytes) x items is read = absurd (cc)
any_layer (layer.Text bytes) x items is read = absurd (cc)
any_layer (layer.List others) x items is read = (let same : others ≡ items = cc in sym is ∙ v.rolls-List others ∙ ap v.List same)
any_layer (layer.Map pairs) x items is read = absurd (cc)
any_layer (layer.Link cid) x items is read = absurd (cc)

pub items_read : (x : Value) (items : List Value) → items_of x ≡ Ok items → x ≡ v.List items
items_read x items read = any_layer (out-Value x) x items (roll-out-Value x) read

long_list : (len : ℕ) (l : Value-F Value) (items : List Value) → list_layer len l ≡ Ok items → (items_layer l ≡ Ok items) × (length items ≡ len)
long_list len layer.Null items read = absurd (cc)
long_list len (layer.Bool b) items read = absurd (cc)
long_list len (layer.Int m) items read = absurd (cc)
long_list len (layer.Blob bytes) items read = absurd (cc)
long_list len (layer.Text bytes) items read = absurd (cc)
long_list len (layer.List others) items read =
    let both = by_test (eqb (length others) len) others items WrongLength read in
    (ap Ok both.1, subst (λ (xs : List Value). length xs ≡ len) both.1 (eqb-true (length others) len both.0))
long_list len (layer.Map pairs) items read = absurd (cc)
long_list len (layer.Link cid) items read = absurd (cc)

pub list_read : (x : Value) (len : ℕ) (items : List Value) → list_of x len ≡ Ok items → (x ≡ v.List items) × (length items ≡ len)
list_read x len items read =
    let both = long_list len (out-Value x) items read in
    (items_read x items both.0, both.1)
