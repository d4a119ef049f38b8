-- Reading the values of a node, and its links.
use Rattle.std.proofs.Common.{◌≡◌, ℕ, zero, suc, ◌+◌, ◌<◌, ◌≤◌, List, [], ◌∷◌, ◌++◌, Bool, true, false, cond, length, take, drop, get_or, map, Some, None, Option, Vec, Global, All, refl, sym, ap, subst, ◌∙◌, arith, take_all}
use Rattle.std.proofs.lemmas.List.Elements.{All-nil, All-more}
use Rattle.std.proofs.lemmas.List.Folds.{list_all_at}
use Rattle.std.specs.List.{AllByRecursion, list_all}
use Rattle.fil_base.specs.CidParts.{CidParts}
use Rattle.dag_cbor.specs.Plain.{IsPlain}
use Rattle.dag_cbor.specs.Spelling.{joined, spelled}
use Rattle.dag_cbor.specs.declared.value.Value.{Value, out-Value}
use Rattle.dag_cbor.proofs.OneSpelling.{one_spelling_within}
use Rattle.tree_blocks.specs.Forms.{for_each, if_some}
use Rattle.amt_map.specs.Depth.{is_within}
use Rattle.amt_map.specs.Pairs.{Pairs}
use Rattle.amt_map.specs.Reading.{AreSpelled, shown}
use Rattle.amt_map.specs.ValueBytes.{IsFront, IsOneValue, the_value}
use Rattle.amt_map.specs.Walk.{by_digit, link_in, set_digits}
use Rattle.amt_map.proofs.Depths.{one_deeper, three_deeper}
use Rattle.amt_map.proofs.NodeForm.{LinkedSoFar, SpelledSoFar, cid_of_link, digits_small, linked_begin, linked_end, linked_more, no_link, other_count, spelled_begin, spelled_end, spelled_more}
use Rattle.amt_map.proofs.OneValue.{one_of, the_value_is}
use Rattle.amt_map.proofs.Within.{all_within, not_within}

-- ---- the item at a place

-- an item, and those behind it
pub record ItemAt (items : List Value) (i : ℕ) : Type 0 where
  pub item : Value
  pub is : item ≡ get_or items i item
  pub next : drop i items ≡ item ∷ drop (i + 1) items
  pub plain : IsPlain 128 item

pub item_at_place : (items : List Value) (i : ℕ) → AllByRecursion (IsPlain 127) items → i < length items → ItemAt items i
item_at_place [] i plain lt = absurd (omega (arith, lt))
item_at_place (x ∷ items) zero plain lt = record { item = x; is = refl; next = refl; plain = one_deeper 127 x plain.0 }
item_at_place (x ∷ items) (suc i) plain lt =
    let rest = item_at_place items i plain.1 (omega (arith, lt)) in
    let more : suc (i + 1) ≡ suc i + 1 = omega arith in
    record { item = rest.item; is = rest.is; next = rest.next ∙ ap (λ (n : ℕ). rest.item ∷ drop n (x ∷ items)) more; plain = rest.plain }

-- what is left begins with the item at a place
pub left_at : (items : List Value) (i : ℕ) (rest : List ℕ) → (at : ItemAt items i) → rest ≡ joined (map spelled (drop i items)) → rest ≡ spelled at.item ++ joined (map spelled (drop (i + 1) items))
left_at items i rest at is = is ∙ ap (λ (xs : List Value). joined (map spelled xs)) at.next

pub front_at : (items : List Value) (i : ℕ) (rest : List ℕ) → ItemAt items i → rest ≡ joined (map spelled (drop i items)) → IsFront rest
front_at items i rest at is = record { value = at.item; rest = joined (map spelled (drop (i + 1) items)); plain = at.plain; same = left_at items i rest at is }

-- ---- the values

-- the values at the first places were spelled, and the others are left
pub record ValuesSoFar (ds : List ℕ) (items : List Value) (i : ℕ) (read : List (ℕ × Vec ℕ Global)) (rest : List ℕ) : Type 0 where
  pub so_far : SpelledSoFar ds items i read
  pub rest_is : rest ≡ joined (map spelled (drop i items))
  pub plain : All (IsPlain 125) (take i items)

pub values_begin : (ds : List ℕ) (items : List Value) (read : List (ℕ × Vec ℕ Global)) (rest : List ℕ) → read ≡ [] → rest ≡ joined (map spelled items) → ValuesSoFar ds items 0 read rest
values_begin ds items read rest none is = record { so_far = spelled_begin ds items read none; rest_is = is; plain = All-nil (IsPlain 125) }

same_item : (items : List Value) (i : ℕ) (rest item behind : List ℕ) (value : Value) → (at : ItemAt items i) → rest ≡ joined (map spelled (drop i items)) → IsPlain 125 value → item ≡ spelled value → rest ≡ item ++ behind
    → (value ≡ at.item) × (behind ≡ joined (map spelled (drop (i + 1) items)))
same_item items i rest item behind value at rest_is plain is parts =
    one_spelling_within 128 value at.item behind (joined (map spelled (drop (i + 1) items))) (three_deeper 125 value plain) at.plain (ap (λ (t : List ℕ). t ++ behind) (sym is) ∙ sym parts ∙ left_at items i rest at rest_is)

pub values_more : (bits : ℕ) (ds : List ℕ) (items : List Value) (i : ℕ) (read after : List (ℕ × Vec ℕ Global)) (rest item behind : List ℕ) (d : ℕ) (value : Value) (bytes : Vec ℕ Global)
    → ds ≡ set_digits bits → length ds ≡ length items → AllByRecursion (IsPlain 127) items → i < length ds → IsPlain 125 value → item ≡ spelled value → rest ≡ item ++ behind → d ≡ get_or ds i d → bytes.items ≡ item → after ≡ read ++ (d, bytes) ∷ []
    → ValuesSoFar ds items i read rest → ValuesSoFar ds items (i + 1) after behind
values_more bits ds items i read after rest item behind d value bytes are count plain lt plain_value is parts is_d copied pushed so_far =
    let within : i < length items = omega (arith, lt, count) in
    let at = item_at_place items i plain within in
    let same = same_item items i rest item behind value at so_far.rest_is plain_value is parts in
    let there : value ≡ get_or items i value = subst (λ (x : Value). x ≡ get_or items i x) (sym same.0) at.is in
    record {
      so_far = spelled_more ds items i read after d value bytes count (subst (All (λ p. p < 8)) (sym are) (digits_small bits)) within is_d there (copied ∙ is) pushed so_far.so_far;
      rest_is = same.1;
      plain = All-more (IsPlain 125) items i value within so_far.plain (subst (IsPlain 125) there plain_value);
    }

no_leaf : (b : Bool) (leaf : Option Pairs) → leaf ≡ None → None ≡ cond b leaf None
no_leaf true leaf none = sym none
no_leaf false leaf none = refl

-- there are not as many as bits
pub other_values : (bits count : ℕ) (ds : List ℕ) (items : List Value) → ds ≡ set_digits bits → count ≡ length items → (count ≡ length ds → ⊥) → cond (list_all (is_within 125) items) (by_digit bits items) None ≡ None
other_values bits count ds items are count_is other = sym (no_leaf (list_all (is_within 125) items) (by_digit bits items) (other_count bits items (λ same. other (count_is ∙ same ∙ ap length (sym are)))))

-- one is too deep
pub values_deep : (bits : ℕ) (ds : List ℕ) (items : List Value) (i : ℕ) (read : List (ℕ × Vec ℕ Global)) (rest : List ℕ) → length ds ≡ length items → AllByRecursion (IsPlain 127) items → i < length ds
    → ((value : Value) (behind : List ℕ) → IsPlain 125 value → rest ≡ spelled value ++ behind → ⊥) → ValuesSoFar ds items i read rest → cond (list_all (is_within 125) items) (by_digit bits items) None ≡ None
values_deep bits ds items i read rest count plain lt never so_far =
    let within : i < length items = omega (arith, lt, count) in
    let at = item_at_place items i plain within in
    let deep : is_within 125 at.item ≡ false = not_within 128 125 at.item at.plain (λ p. never at.item (joined (map spelled (drop (i + 1) items))) p (left_at items i rest at so_far.rest_is)) in
    ap (λ (b : Bool). cond b (by_digit bits items) None) (list_all_at (is_within 125) items i at.item within (ap (is_within 125) (sym at.is) ∙ deep))

pub values_end : (bits : ℕ) (ds : List ℕ) (items : List Value) (i : ℕ) (read : List (ℕ × Vec ℕ Global)) (rest : List ℕ) → ds ≡ set_digits bits → length ds ≡ length items → length ds ≤ i → ValuesSoFar ds items i read rest
    → (leaf : Pairs) × (cond (list_all (is_within 125) items) (by_digit bits items) None ≡ Some leaf) × AreSpelled (shown read) leaf
values_end bits ds items i read rest are count whole so_far =
    let plain : All (IsPlain 125) items = subst (All (IsPlain 125)) (take_all i items (omega (arith, whole, count))) so_far.plain in
    let leaf = spelled_end bits ds items i read are (sym count) (omega (arith, whole, count)) plain so_far.so_far in
    (leaf.0, ap (λ (b : Bool). cond b (by_digit bits items) None) (all_within 125 items plain) ∙ leaf.1, leaf.2)

-- ---- the links

-- the links at the first places were read, and the others are left
pub record LinksSoFar (ds : List ℕ) (items : List Value) (i : ℕ) (read : List (ℕ × CidParts)) (rest : List ℕ) : Type 0 where
  pub so_far : LinkedSoFar ds items i read
  pub rest_is : rest ≡ joined (map spelled (drop i items))

pub links_begin : (ds : List ℕ) (items : List Value) (read : List (ℕ × CidParts)) (rest : List ℕ) → read ≡ [] → rest ≡ joined (map spelled items) → LinksSoFar ds items 0 read rest
links_begin ds items read rest none is = record { so_far = linked_begin ds items read none; rest_is = is }

-- the item that was cut off
pub record IsCut (items : List Value) (i : ℕ) (item behind : List ℕ) : Type 0 where
  pub at : ItemAt items i
  pub item_is : item ≡ spelled at.item
  pub behind_is : behind ≡ joined (map spelled (drop (i + 1) items))

pub cut_at : (items : List Value) (i : ℕ) (rest item behind : List ℕ) → AllByRecursion (IsPlain 127) items → i < length items → rest ≡ joined (map spelled (drop i items))
    → ((value : Value) (tail : List ℕ) → IsPlain 128 value → rest ≡ spelled value ++ tail → (item ≡ spelled value) × (behind ≡ tail)) → IsCut items i item behind
cut_at items i rest item behind plain lt rest_is cuts =
    let at = item_at_place items i plain lt in
    let cut = cuts at.item (joined (map spelled (drop (i + 1) items))) at.plain (left_at items i rest at rest_is) in
    record { at = at; item_is = cut.0; behind_is = cut.1 }

pub cut_one : (items : List Value) (i : ℕ) (item behind : List ℕ) → IsCut items i item behind → IsOneValue item
cut_one items i item behind cut = one_of item cut.at.item cut.at.plain cut.item_is

cut_link : (items : List Value) (i : ℕ) (item behind : List ℕ) (cid : Option CidParts) → (cut : IsCut items i item behind) → cid ≡ link_in (out-Value (the_value item)) → cid_of_link cut.at.item ≡ cid
cut_link items i item behind cid cut is = sym (is ∙ ap (λ (x : Value). link_in (out-Value x)) (the_value_is item cut.at.item cut.at.plain cut.item_is))

pub links_more : (bits : ℕ) (ds : List ℕ) (items : List Value) (i : ℕ) (read after : List (ℕ × CidParts)) (rest item behind : List ℕ) (d : ℕ) (cid : CidParts)
    → ds ≡ set_digits bits → length ds ≡ length items → i < length ds → IsCut items i item behind → Some cid ≡ link_in (out-Value (the_value item)) → d ≡ get_or ds i d → after ≡ read ++ (d, cid) ∷ []
    → LinksSoFar ds items i read rest → LinksSoFar ds items (i + 1) after behind
links_more bits ds items i read after rest item behind d cid are count lt cut is is_d pushed so_far = record {
  so_far = linked_more ds items i read after d cut.at.item cid count (subst (All (λ p. p < 8)) (sym are) (digits_small bits)) (omega (arith, lt, count)) is_d cut.at.is (cut_link items i item behind (Some cid) cut is) pushed so_far.so_far;
  rest_is = cut.behind_is;
}

pub links_end : (bits : ℕ) (ds : List ℕ) (items : List Value) (i : ℕ) (read : List (ℕ × CidParts)) (rest : List ℕ) → ds ≡ set_digits bits → length ds ≡ length items → length ds ≡ i → LinksSoFar ds items i read rest
    → Some read ≡ if_some (for_each cid_of_link items) (by_digit bits)
links_end bits ds items i read rest are count whole so_far = linked_end bits ds items i read are (sym count) (sym count ∙ whole) so_far.so_far

pub link_none : (bits : ℕ) (ds : List ℕ) (items : List Value) (i : ℕ) (item behind : List ℕ) → length ds ≡ length items → i < length ds → (cut : IsCut items i item behind) → None ≡ link_in (out-Value (the_value item)) → None ≡ if_some (for_each cid_of_link items) (by_digit bits)
link_none bits ds items i item behind count lt cut is = no_link bits items i cut.at.item (omega (arith, lt, count)) cut.at.is (cut_link items i item behind None cut is)
