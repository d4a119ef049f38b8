-- Records of actors, read.
use Rattle.std.proofs.Common.{◌≡◌, ℕ, ℤ, zero, suc, ◌^◌, ◌<◌, ◌≤◌, List, [], ◌∷◌, Bool, true, false, cond, ◌&&◌, length, pos, negsuc, Option, Some, None, Result, Ok, Err, inl, inr, ltb, leb, eqb, refl, sym, ap, subst, ◌∙◌, arith}
use Rattle.std.specs.Prelude.{IfSome, T, is_some, slice_get}
use Rattle.std.specs.Int.Digits.{number_from_digits}
use Rattle.std.specs.Str.{bytes_eq}
use Rattle.std.specs.Cmp.Lexicographic.{bytes_decides}
use Rattle.std.proofs.lemmas.Bool.{and_parts, cases_Bool}
use Rattle.std.proofs.lemmas.Bool.Decides.{nat_tests}
use Rattle.fil_base.specs.Amount.{amount}
use Rattle.fil_base.specs.CidParts.{CidParts, IsCid}
use Rattle.fil_base.specs.declared.token.TheConstants.{GREATEST_AMOUNT}
use Rattle.dag_cbor.specs.declared.value.Value.{Value, Value-F, out-Value, roll-Value, roll-out-Value}
use Rattle.dag_cbor.specs.declared.value.Value.TheOpen as layer
use Rattle.dag_cbor.specs.declared.value.Value.TheVariants as v
use Rattle.cbor_fields.specs.Fields.{field, item_read, placed}
use Rattle.cbor_fields.specs.Readers.{amount_of, cid_layer, cid_of, list_layer, list_of, number_of, token_layer, token_of, u64_layer, u64_of}
use Rattle.cbor_fields.specs.declared.field_fault.FieldFault.{FieldFault}
use Rattle.cbor_fields.specs.declared.field_fault.FieldKind.{FieldKind}
use Rattle.cbor_fields.specs.declared.field_fault.FieldKind.TheVariants.{OutOfRange}
use Rattle.cbor_fields.proofs.ReadBack.{read_amount, read_cid, read_list, read_number}
use Rattle.hamt_map.specs.StateFaults.{given}
use Rattle.tree_blocks.specs.Forms.{if_some}
use Rattle.tree_blocks.proofs.ForEach.{if_some_gives}
use Rattle.state_tree.specs.Actors.{IsActor, actor_record}
use Rattle.state_tree.specs.Reading.{actor_in}
use Rattle.state_tree.specs.declared.actor.Actor.{Actor}

-- ---- what was read

pub given_gives : {X E : Type 0} (r : Result X E) (x : X) → given r ≡ Some x → r ≡ Ok x
given_gives (Ok y) x is = let same : y ≡ x = cc in ap Ok same
given_gives (Err e) x is = absurd (cc)

pub given_placed : {X : Type 0} (at : ℕ) (r : Result X FieldKind) (x : X) → placed at r ≡ Ok x → given r ≡ Some x
given_placed at (Ok y) x is = let same : y ≡ x = cc in ap Some same
given_placed at (Err kind) x is = absurd (cc)

pub refused_placed : {X : Type 0} (at : ℕ) (r : Result X FieldKind) (fault : FieldFault) → placed at r ≡ Err fault → given r ≡ None
refused_placed at (Ok y) fault is = absurd (cc)
refused_placed at (Err kind) fault is = refl

pub given_ok : {X E : Type 0} (r : Result X E) (x : X) → r ≡ Ok x → given r ≡ Some x
given_ok r x is = ap given is

pub refused : {X E : Type 0} (r : Result X E) (e : E) → r ≡ Err e → given r ≡ None
refused r e is = ap given is

placed_gives : {X : Type 0} (at : ℕ) (r : Result X FieldKind) (x : X) → placed at r ≡ Ok x → r ≡ Ok x
placed_gives at (Ok y) x is = let same : y ≡ x = cc in ap Ok same
placed_gives at (Err kind) x is = absurd (cc)

item_gives : {X : Type 0} (read : Value → Result X FieldKind) (o : Option Value) (x : X) → item_read read o ≡ Ok x → (value : Value) × (o ≡ Some value) × (read value ≡ Ok x)
item_gives read None x is = absurd (cc)
item_gives read (Some value) x is = (value, refl, is)

-- the item at a place that was read
pub field_gives : {X : Type 0} (read : Value → Result X FieldKind) (items : List Value) (at : ℕ) (x : X) → given (field read items at) ≡ Some x → (value : Value) × (slice_get items at ≡ Some value) × (read value ≡ Ok x)
field_gives read items at x is = item_gives read (slice_get items at) x (placed_gives at _ x (given_gives _ x is))

-- ---- the value that was read

by_test : {X E : Type 0} (t : Bool) (y x : X) (e : E) → cond t (Ok y) (Err e) ≡ Ok x → (t ≡ true) × (y ≡ x)
by_test true y x e is = (refl, cc)
by_test false y x e is = absurd (cc)

number_layer : (l : Value-F Value) (x : Value) (n : ℕ) → roll-Value l ≡ x → u64_layer l ≡ Ok n → (x ≡ v.Int (pos n)) × (n < 2 ^ 64)
number_layer layer.Null x n is read = absurd (cc)
number_layer (layer.Bool b) x n is read = absurd (cc)
number_layer (layer.Int (pos m)) x n is read =
    let both = by_test (ltb m (2 ^ 64)) m n OutOfRange read in
    let small : m < 2 ^ 64 = grind (arith, nat_tests, both.0) in
    (sym is ∙ v.rolls-Int (pos m) ∙ ap (λ (k : ℕ). v.Int (pos k)) both.1, subst (λ k. k < 2 ^ 64) both.1 small)
number_layer (layer.Int (negsuc m)) x n is read = absurd (cc)
number_layer (layer.Blob bytes) x n is read = absurd (cc)
number_layer (layer.Text bytes) x n is read = absurd (cc)
number_layer (layer.List items) x n is read = absurd (cc)
number_layer (layer.Map pairs) x n is read = absurd (cc)
number_layer (layer.Link cid) x n is read = absurd (cc)

pub number_value : (x : Value) (n : ℕ) → u64_of x ≡ Ok n → (x ≡ v.Int (pos n)) × (n < 2 ^ 64)
number_value x n read = number_layer (out-Value x) x n (roll-out-Value x) read

link_layer : (l : Value-F Value) (x : Value) (cid : CidParts) → roll-Value l ≡ x → cid_layer l ≡ Ok cid → x ≡ v.Link cid
link_layer layer.Null x cid is read = absurd (cc)
link_layer (layer.Bool b) x cid is read = absurd (cc)
link_layer (layer.Int m) x cid is read = absurd (cc)
link_layer (layer.Blob bytes) x cid is read = absurd (cc)
link_layer (layer.Text bytes) x cid is read = absurd (cc)
link_layer (layer.List items) x cid is read = absurd (cc)
link_layer (layer.Map pairs) x cid is read = absurd (cc)
link_layer (layer.Link other) x cid is read = let same : other ≡ cid = cc in sym is ∙ v.rolls-Link other ∙ ap v.Link same

pub link_value : (x : Value) (cid : CidParts) → cid_of x ≡ Ok cid → x ≡ v.Link cid
link_value x cid read = link_layer (out-Value x) x cid (roll-out-Value x) read

amount_bytes : (bytes : List ℕ) (n : ℕ) → amount_of bytes ≡ Ok n → (bytes ≡ amount n) × (n ≤ GREATEST_AMOUNT)
unfolding amount_of
amount_bytes bytes n read = by (number_from_digits 256 bytes) read where
  by : (m : ℕ) → cond (bytes_eq bytes (amount m) && leb m GREATEST_AMOUNT) (Ok m) (Err OutOfRange) ≡ Ok n → (bytes ≡ amount n) × (n ≤ GREATEST_AMOUNT)
  by m is =
      let both = by_test (bytes_eq bytes (amount m) && leb m GREATEST_AMOUNT) m n OutOfRange is in
      let tests = and_parts (bytes_eq bytes (amount m)) (leb m GREATEST_AMOUNT) both.0 in
      let small : m ≤ GREATEST_AMOUNT = grind (arith, nat_tests, tests.1) in
      ((bytes_decides bytes (amount m)).0 tests.0 ∙ ap amount both.1, subst (λ k. k ≤ GREATEST_AMOUNT) both.1 small)

blob_layer : (l : Value-F Value) (x : Value) (n : ℕ) → roll-Value l ≡ x → token_layer l ≡ Ok n → (x ≡ v.Blob (amount n)) × (n ≤ GREATEST_AMOUNT)
blob_layer layer.Null x n is read = absurd (cc)
blob_layer (layer.Bool b) x n is read = absurd (cc)
blob_layer (layer.Int m) x n is read = absurd (cc)
blob_layer (layer.Blob bytes) x n is read = let both = amount_bytes bytes n read in (sym is ∙ v.rolls-Blob bytes ∙ ap v.Blob both.0, both.1)
blob_layer (layer.Text bytes) x n is read = absurd (cc)
blob_layer (layer.List items) x n is read = absurd (cc)
blob_layer (layer.Map pairs) x n is read = absurd (cc)
blob_layer (layer.Link cid) x n is read = absurd (cc)

pub amount_value : (x : Value) (n : ℕ) → token_of x ≡ Ok n → (x ≡ v.Blob (amount n)) × (n ≤ GREATEST_AMOUNT)
amount_value x n read = blob_layer (out-Value x) x n (roll-out-Value x) read

items_layer : (len : ℕ) (l : Value-F Value) (x : Value) (items : List Value) → roll-Value l ≡ x → list_layer len l ≡ Ok items → (x ≡ v.List items) × (length items ≡ len)
items_layer len layer.Null x items is read = absurd (cc)
items_layer len (layer.Bool b) x items is read = absurd (cc)
items_layer len (layer.Int m) x items is read = absurd (cc)
items_layer len (layer.Blob bytes) x items is read = absurd (cc)
items_layer len (layer.Text bytes) x items is read = absurd (cc)
items_layer len (layer.List others) x items is read =
    let both = by_test (eqb (length others) len) others items _ read in
    let count : length others ≡ len = grind (arith, nat_tests, both.0) in
    (sym is ∙ v.rolls-List others ∙ ap v.List both.1, subst (λ (xs : List Value). length xs ≡ len) both.1 count)
items_layer len (layer.Map pairs) x items is read = absurd (cc)
items_layer len (layer.Link cid) x items is read = absurd (cc)

pub list_value : (x : Value) (len : ℕ) (items : List Value) → list_of x len ≡ Ok items → (x ≡ v.List items) × (length items ≡ len)
list_value x len items read = items_layer len (out-Value x) x items (roll-out-Value x) read

-- ---- a record and its actor

four_items : (items : List Value) (a b c d : Value) → length items ≡ 4 → slice_get items 0 ≡ Some a → slice_get items 1 ≡ Some b → slice_get items 2 ≡ Some c → slice_get items 3 ≡ Some d
    → items ≡ a ∷ b ∷ c ∷ d ∷ []
four_items [] a b c d len at-0 at-1 at-2 at-3 = absurd (omega arith)
four_items (p ∷ []) a b c d len at-0 at-1 at-2 at-3 = absurd (omega arith)
four_items (p ∷ q ∷ []) a b c d len at-0 at-1 at-2 at-3 = absurd (omega arith)
four_items (p ∷ q ∷ r ∷ []) a b c d len at-0 at-1 at-2 at-3 = absurd (omega arith)
four_items (p ∷ q ∷ r ∷ s ∷ []) a b c d len at-0 at-1 at-2 at-3 =
    let one : p ≡ a = cc at-0 in
    let two : q ≡ b = cc at-1 in
    let three : r ≡ c = cc at-2 in
    let four : s ≡ d = cc at-3 in
    λ i. one i ∷ two i ∷ three i ∷ four i ∷ []
four_items (p ∷ q ∷ r ∷ s ∷ t ∷ more) a b c d len at-0 at-1 at-2 at-3 = absurd (omega arith)

-- a value that is read as an actor is its record
pub record_of_actor : (value : Value) (a : Actor) → actor_in value ≡ Some a → value ≡ actor_record a
unfolding actor_in
record_of_actor value a is =
    let items = if_some_gives (given (list_of value 4)) _ a is in
    let code = if_some_gives (given (field cid_of items.0 0)) _ a items.2 in
    let head = if_some_gives (given (field cid_of items.0 1)) _ a code.2 in
    let sequence = if_some_gives (given (field u64_of items.0 2)) _ a head.2 in
    let balance = if_some_gives (given (field token_of items.0 3)) _ a sequence.2 in
    let made : record { code = code.0; head = head.0; sequence = sequence.0; balance = balance.0 } ≡ a = cc balance.2 in
    let whole = list_value value 4 items.0 (given_gives _ _ items.1) in
    let at-0 = field_gives cid_of items.0 0 code.0 code.1 in
    let at-1 = field_gives cid_of items.0 1 head.0 head.1 in
    let at-2 = field_gives u64_of items.0 2 sequence.0 sequence.1 in
    let at-3 = field_gives token_of items.0 3 balance.0 balance.1 in
    let four = four_items items.0 at-0.0 at-1.0 at-2.0 at-3.0 whole.1 at-0.1 at-1.1 at-2.1 at-3.1 in
    whole.0 ∙ ap v.List four
    ∙ (λ i. v.List (link_value at-0.0 code.0 at-0.2 i ∷ link_value at-1.0 head.0 at-1.2 i ∷ (number_value at-2.0 sequence.0 at-2.2).0 i ∷ (amount_value at-3.0 balance.0 at-3.2).0 i ∷ []))
    ∙ ap actor_record made

-- the record of an actor is read as the actor
pub actor_of_record : (a : Actor) → IsActor a → actor_in (actor_record a) ≡ Some a
unfolding actor_in
actor_of_record a is =
    let items : List Value = v.Link a.code ∷ v.Link a.head ∷ v.Int (pos a.sequence) ∷ v.Blob (amount a.balance) ∷ [] in
    let read : list_of (v.List items) 4 ≡ Ok items = read_list items in
    rw (read, read_cid a.code, read_cid a.head, read_number a.sequence is.sequence, read_amount a.balance is.balance) refl

-- ---- reading the fields

pub no_list : (value : Value) (fault : FieldFault) → placed 0 (list_of value 4) ≡ Err fault → None ≡ actor_in value
unfolding actor_in
no_list value fault none = rw (refused_placed 0 (list_of value 4) fault none) refl

pub no_code : (value : Value) (items : List Value) (fault : FieldFault) → placed 0 (list_of value 4) ≡ Ok items → field cid_of items 0 ≡ Err fault → None ≡ actor_in value
unfolding actor_in
no_code value items fault list none = rw (given_placed 0 (list_of value 4) items list, none) refl

pub no_head : (value : Value) (items : List Value) (code : CidParts) (fault : FieldFault) → placed 0 (list_of value 4) ≡ Ok items → field cid_of items 0 ≡ Ok code → field cid_of items 1 ≡ Err fault
    → None ≡ actor_in value
unfolding actor_in
no_head value items code fault list first none = rw (given_placed 0 (list_of value 4) items list, first, none) refl

pub no_sequence : (value : Value) (items : List Value) (code head : CidParts) (fault : FieldFault) → placed 0 (list_of value 4) ≡ Ok items → field cid_of items 0 ≡ Ok code → field cid_of items 1 ≡ Ok head
    → Err fault ≡ field u64_of items 2 → None ≡ actor_in value
unfolding actor_in
no_sequence value items code head fault list first second none = rw (given_placed 0 (list_of value 4) items list, first, second, sym none) refl

pub no_balance : (value : Value) (items : List Value) (code head : CidParts) (sequence : ℕ) (fault : FieldFault) → placed 0 (list_of value 4) ≡ Ok items → field cid_of items 0 ≡ Ok code → field cid_of items 1 ≡ Ok head
    → Ok sequence ≡ field u64_of items 2 → Err fault ≡ field token_of items 3 → None ≡ actor_in value
unfolding actor_in
no_balance value items code head sequence fault list first second third none =
    rw (given_placed 0 (list_of value 4) items list, first, second, sym third, sym none) refl

pub all_fields : (value : Value) (items : List Value) (code head : CidParts) (sequence balance : ℕ) → placed 0 (list_of value 4) ≡ Ok items → field cid_of items 0 ≡ Ok code → field cid_of items 1 ≡ Ok head
    → Ok sequence ≡ field u64_of items 2 → Ok balance ≡ field token_of items 3
    → Some record { code = code; head = head; sequence = sequence; balance = balance } ≡ actor_in value
unfolding actor_in
all_fields value items code head sequence balance list first second third fourth =
    rw (given_placed 0 (list_of value 4) items list, first, second, sym third, sym fourth) refl

-- an actor that was read of CIDs is in its ranges
pub fields_are : (value : Value) (items : List Value) (code head : CidParts) (sequence balance : ℕ) → placed 0 (list_of value 4) ≡ Ok items → field cid_of items 0 ≡ Ok code → field cid_of items 1 ≡ Ok head
    → Ok sequence ≡ field u64_of items 2 → Ok balance ≡ field token_of items 3 → IsCid code → IsCid head → IfSome (actor_in value) IsActor
fields_are value items code head sequence balance list first second third fourth is-code is-head =
    let at-2 = field_gives u64_of items 2 sequence (given_ok _ _ (sym third)) in
    let at-3 = field_gives token_of items 3 balance (given_ok _ _ (sym fourth)) in
    subst (λ (o : Option Actor). IfSome o IsActor) (all_fields value items code head sequence balance list first second third fourth)
    record { code = is-code; head = is-head; sequence = (number_value at-2.0 sequence at-2.2).1; balance = (amount_value at-3.0 balance at-3.2).1 }

pub nothing_is_actor : (value : Value) → None ≡ actor_in value → IfSome (actor_in value) IsActor
nothing_is_actor value none = subst (λ (o : Option Actor). IfSome o IsActor) none tt
