-- Steps of reading a node.
use Rattle.std.proofs.Common.{◌≡◌, ℕ, zero, suc, ◌+◌, ◌<◌, ◌/◌, ◌%◌, ◌^◌, ◌==◌, List, [], ◌∷◌, ◌++◌, Bool, true, false, cond, length, take, get_or, filter, Some, None, Option, Ok, Vec, Global, All, ◌≤◌, zip, refl, sym, ap, subst, ◌∙◌, arith, append-nil, length-append, length-take-le, take_all}
use Rattle.std.proofs.lemmas.Bool.{eqb-true, eqb-false}
use Rattle.std.proofs.lemmas.List.{take_more, map_push}
use Rattle.std.proofs.lemmas.List.Elements.{filter-append, All-nil, All-cons, All-head, All-tail, All-filter, All-push, All-get_or, All-weaker, All-from_recursion}
use Rattle.fil_base.specs.CidParts.{CidParts}
use Rattle.dag_cbor.specs.Plain.{IsPlain}
use Rattle.dag_cbor.specs.Reading.{whole_at}
use Rattle.dag_cbor.specs.Spelling.{spelled}
use Rattle.dag_cbor.specs.declared.value.Value.{Value, out-Value}
use Rattle.dag_cbor.proofs.Whole.{whole_again}
use Rattle.amt_map.specs.Node.{digits}
use Rattle.amt_map.specs.Holds.{spellings}
use Rattle.amt_map.specs.Pairs.{Pairs}
use Rattle.amt_map.specs.Reading.{AreSpelled, shown}
use Rattle.amt_map.specs.Walk.{by_digit, link_in, set_digits, value_in}
use Rattle.tree_blocks.specs.Forms.{for_each, if_some}
use Rattle.tree_blocks.proofs.ForEach.{for_each_more, for_each_none, if_some_gives}

-- ---- a block's bytes

-- the bytes of a plain value
pub value_read : (bytes : List ℕ) (x : Value) → IsPlain 128 x → bytes ≡ spelled x → Some x ≡ value_in bytes
value_read bytes x plain is =
    let read : whole_at bytes ≡ Ok x = ap whole_at is ∙ whole_again x plain in
    rw read

-- ---- the digits of a bitmap

digit_there : (d : ℕ) → d < 8 → get_or digits d 0 ≡ d
digit_there zero lt = refl
digit_there (suc zero) lt = refl
digit_there (suc (suc zero)) lt = refl
digit_there (suc (suc (suc zero))) lt = refl
digit_there (suc (suc (suc (suc zero)))) lt = refl
digit_there (suc (suc (suc (suc (suc zero))))) lt = refl
digit_there (suc (suc (suc (suc (suc (suc zero)))))) lt = refl
digit_there (suc (suc (suc (suc (suc (suc (suc zero))))))) lt = refl
digit_there (suc (suc (suc (suc (suc (suc (suc (suc d)))))))) lt = absurd (omega (arith, lt))

abbrev pub is_set : ℕ → ℕ → Bool
is_set bits digit = bits / 2 ^ digit % 2 == 1

-- the next digit is set or not
pub digits_more : (test : ℕ → Bool) (d : ℕ) → d < 8 → filter test (take (d + 1) digits) ≡ filter test (take d digits) ++ cond (test d) (d ∷ []) []
digits_more test d lt =
    ap (filter test) (take_more digits d 0 lt ∙ ap (λ z. take d digits ++ z ∷ []) (digit_there d lt))
    ∙ filter-append test (take d digits) (d ∷ [])

pub digit_put : (bits d : ℕ) (before after : List ℕ) (b : Bool) → d < 8 → b ≡ is_set bits d → b ≡ true → before ≡ filter (is_set bits) (take d digits) → after ≡ before ++ d ∷ []
    → after ≡ filter (is_set bits) (take (d + 1) digits)
digit_put bits d before after b lt is set all pushed =
    pushed ∙ ap (λ (ds : List ℕ). ds ++ d ∷ []) all ∙ ap (λ (t : Bool). filter (is_set bits) (take d digits) ++ cond t (d ∷ []) []) (sym set ∙ is) ∙ sym (digits_more (is_set bits) d lt)

pub digit_left : (bits d : ℕ) (before after : List ℕ) (b : Bool) → d < 8 → b ≡ is_set bits d → b ≡ false → before ≡ filter (is_set bits) (take d digits) → after ≡ before
    → after ≡ filter (is_set bits) (take (d + 1) digits)
digit_left bits d before after b lt is unset all same =
    same ∙ all ∙ sym (append-nil (filter (is_set bits) (take d digits))) ∙ ap (λ (t : Bool). filter (is_set bits) (take d digits) ++ cond t (d ∷ []) []) (sym unset ∙ is) ∙ sym (digits_more (is_set bits) d lt)

-- ---- what stands at the digits

pub zip_push : {A B : Type 0} (xs : List A) (ys : List B) (x : A) (y : B) → length xs ≡ length ys → zip (xs ++ x ∷ []) (ys ++ y ∷ []) ≡ zip xs ys ++ (x, y) ∷ []
zip_push [] [] x y same = refl
zip_push [] (b ∷ ys) x y same = absurd (omega (arith, same))
zip_push (a ∷ xs) [] x y same = absurd (omega (arith, same))
zip_push (a ∷ xs) (b ∷ ys) x y same = ap (λ t. (a, b) ∷ t) (zip_push xs ys x y (omega (arith, same)))

-- one more at the same place of two lists
pub zip_more : {A B : Type 0} (xs : List A) (ys : List B) (i : ℕ) (x : A) (y : B) → length xs ≡ length ys → i < length ys → x ≡ get_or xs i x → y ≡ get_or ys i y
    → zip (take (i + 1) xs) (take (i + 1) ys) ≡ zip (take i xs) (take i ys) ++ (x, y) ∷ []
zip_more xs ys i x y same lt is_x is_y =
    let within : i < length xs = omega (arith, same, lt) in
    (λ j. zip (take_more xs i x within j) (take_more ys i y lt j))
    ∙ (λ j. zip (take i xs ++ sym is_x j ∷ []) (take i ys ++ sym is_y j ∷ []))
    ∙ zip_push (take i xs) (take i ys) x y (length-take-le i xs (omega (arith, within)) ∙ sym (length-take-le i ys (omega (arith, lt))))

pub all_zip : {A B : Type 0} (P : A → Type 0) (Q : B → Type 0) (xs : List A) (ys : List B) → All P xs → All Q ys → All (λ p. P p.0 × Q p.1) (zip xs ys)
all_zip P Q [] ys all_x all_y = All-nil (λ p. P p.0 × Q p.1)
all_zip P Q (x ∷ xs) [] all_x all_y = All-nil (λ p. P p.0 × Q p.1)
all_zip P Q (x ∷ xs) (y ∷ ys) all_x all_y =
    All-cons (λ p. P p.0 × Q p.1) (x, y) (zip xs ys) (All-head P x xs all_x, All-head Q y ys all_y) (all_zip P Q xs ys (All-tail P x xs all_x) (All-tail Q y ys all_y))

-- all digits are below 8
pub digits_small : (bits : ℕ) → All (λ d. d < 8) (set_digits bits)
digits_small bits =
    All-filter (is_set bits) (λ d. d < 8) digits (All-from_recursion (λ d. d < 8) digits (omega arith, (omega arith, (omega arith, (omega arith, (omega arith, (omega arith, (omega arith, (omega arith, tt)))))))))

pub as_many : {A : Type 0} (bits : ℕ) (xs : List A) → length xs ≡ length (set_digits bits) → by_digit bits xs ≡ Some (zip (set_digits bits) xs)
as_many {A} bits xs same = by (length xs == length (set_digits bits)) refl where
  by : (b : Bool) → (length xs == length (set_digits bits)) ≡ b → cond b (Some (zip (set_digits bits) xs)) None ≡ Some (zip (set_digits bits) xs)
  by true e = refl
  by false e = absurd (eqb-false _ _ e same)

pub other_count : {A : Type 0} (bits : ℕ) (xs : List A) → (length xs ≡ length (set_digits bits) → ⊥) → by_digit bits xs ≡ None
other_count {A} bits xs other = by (length xs == length (set_digits bits)) refl where
  by : (b : Bool) → (length xs == length (set_digits bits)) ≡ b → cond b (Some (zip (set_digits bits) xs)) None ≡ None
  by true e = absurd (other (eqb-true _ _ e))
  by false e = refl

-- ---- the values of a node

-- the values at the first places were spelled
pub record SpelledSoFar (ds : List ℕ) (values : List Value) (i : ℕ) (read : List (ℕ × Vec ℕ Global)) : Type 0 where
  pub same : shown read ≡ spellings (zip (take i ds) (take i values))
  pub small : All (λ p. p.0 < 8) read

pub spelled_begin : (ds : List ℕ) (values : List Value) (read : List (ℕ × Vec ℕ Global)) → read ≡ [] → SpelledSoFar ds values 0 read
spelled_begin ds values read none = record { same = ap shown none; small = subst (All (λ p. p.0 < 8)) (sym none) (All-nil (λ p. p.0 < 8)) }

pub spelled_more : (ds : List ℕ) (values : List Value) (i : ℕ) (read after : List (ℕ × Vec ℕ Global)) (d : ℕ) (v : Value) (bytes : Vec ℕ Global) → length ds ≡ length values → All (λ p. p < 8) ds → i < length values
    → d ≡ get_or ds i d → v ≡ get_or values i v → bytes.items ≡ spelled v → after ≡ read ++ (d, bytes) ∷ [] → SpelledSoFar ds values i read → SpelledSoFar ds values (i + 1) after
spelled_more ds values i read after d v bytes count below lt is_d is_v is pushed so_far = record {
  same = ap shown pushed ∙ map_push (λ p. (p.0, p.1.items)) read (d, bytes) ∙ (λ j. so_far.same j ++ (d, is j) ∷ [])
      ∙ sym (ap spellings (zip_more ds values i d v count lt is_d is_v) ∙ map_push (λ p. (p.0, spelled p.1)) (zip (take i ds) (take i values)) (d, v));
  small = subst (All (λ p. p.0 < 8)) (sym pushed) (All-push (λ p. p.0 < 8) read (d, bytes) so_far.small (subst (λ (n : ℕ). n < 8) (sym is_d) (All-get_or (λ p. p < 8) ds i d (omega (arith, count, lt)) below)));
}

pub spelled_end : (bits : ℕ) (ds : List ℕ) (values : List Value) (i : ℕ) (read : List (ℕ × Vec ℕ Global)) → ds ≡ set_digits bits → length values ≡ length ds → length values ≤ i → All (IsPlain 125) values
    → SpelledSoFar ds values i read → (leaf : Pairs) × (by_digit bits values ≡ Some leaf) × AreSpelled (shown read) leaf
spelled_end bits ds values i read are count whole plain so_far = (
  zip (set_digits bits) values,
  as_many bits values (count ∙ ap length are),
  record {
    same = so_far.same ∙ (λ j. spellings (zip (take_all i ds (omega (arith, count, whole)) j) (take_all i values whole j))) ∙ ap (λ (e : List ℕ). spellings (zip e values)) are;
    fit = all_zip (λ d. d < 2 ^ 60) (IsPlain 125) (set_digits bits) values (All-weaker (λ d. d < 8) (λ d. d < 2 ^ 60) (λ d lt. omega (arith, lt)) (set_digits bits) (digits_small bits)) plain;
  },
)

-- ---- the links of a node

abbrev pub cid_of_link : Value → Option CidParts
cid_of_link link = link_in (out-Value link)

-- the links at the first places were read
pub record LinkedSoFar (ds : List ℕ) (links : List Value) (i : ℕ) (read : List (ℕ × CidParts)) : Type 0 where
  pub done : List CidParts
  pub each : for_each cid_of_link (take i links) ≡ Some done
  pub count : length done ≡ i
  pub same : read ≡ zip (take i ds) done
  pub small : All (λ p. p.0 < 8) read

pub linked_begin : (ds : List ℕ) (links : List Value) (read : List (ℕ × CidParts)) → read ≡ [] → LinkedSoFar ds links 0 read
linked_begin ds links read none = record { done = []; each = refl; count = refl; same = none; small = subst (All (λ p. p.0 < 8)) (sym none) (All-nil (λ p. p.0 < 8)) }

pub linked_more : (ds : List ℕ) (links : List Value) (i : ℕ) (read after : List (ℕ × CidParts)) (d : ℕ) (link : Value) (cid : CidParts) → length ds ≡ length links → All (λ p. p < 8) ds → i < length links
    → d ≡ get_or ds i d → link ≡ get_or links i link → cid_of_link link ≡ Some cid → after ≡ read ++ (d, cid) ∷ [] → LinkedSoFar ds links i read → LinkedSoFar ds links (i + 1) after
linked_more ds links i read after d link cid many below lt is_d is_link is pushed so_far = record {
  done = so_far.done ++ cid ∷ [];
  each = for_each_more cid_of_link links i link cid so_far.done lt is_link is so_far.each;
  count = length-append so_far.done (cid ∷ []) ∙ ap (λ n. n + 1) so_far.count;
  same = pushed ∙ (λ j. so_far.same j ++ (d, cid) ∷ [])
      ∙ sym ((λ j. zip (take_more ds i d (omega (arith, many, lt)) j) (so_far.done ++ cid ∷ [])) ∙ (λ j. zip (take i ds ++ sym is_d j ∷ []) (so_far.done ++ cid ∷ []))
      ∙ zip_push (take i ds) so_far.done d cid (length-take-le i ds (omega (arith, many, lt)) ∙ sym so_far.count));
  small = subst (All (λ p. p.0 < 8)) (sym pushed) (All-push (λ p. p.0 < 8) read (d, cid) so_far.small (subst (λ (n : ℕ). n < 8) (sym is_d) (All-get_or (λ p. p < 8) ds i d (omega (arith, many, lt)) below)));
}

pub linked_end : (bits : ℕ) (ds : List ℕ) (links : List Value) (i : ℕ) (read : List (ℕ × CidParts)) → ds ≡ set_digits bits → length links ≡ length ds → length links ≡ i
    → LinkedSoFar ds links i read → Some read ≡ if_some (for_each cid_of_link links) (by_digit bits)
linked_end bits ds links i read are count whole so_far =
    let all : for_each cid_of_link links ≡ Some so_far.done = ap (for_each cid_of_link) (sym (take_all i links (omega (arith, whole)))) ∙ so_far.each in
    ap Some (so_far.same ∙ (λ j. zip (take_all i ds (omega (arith, count, whole)) j) so_far.done) ∙ ap (λ (e : List ℕ). zip e so_far.done) are)
    ∙ sym (ap (λ (r : Option (List CidParts)). if_some r (by_digit bits)) all ∙ as_many bits so_far.done (so_far.count ∙ sym whole ∙ count ∙ ap length are))

for_each_length : {A B : Type 0} (f : A → Option B) (xs : List A) (ys : List B) → for_each f xs ≡ Some ys → length ys ≡ length xs
for_each_length f [] ys e = let nothing : [] ≡ ys = cc in ap length (sym nothing)
for_each_length f (x ∷ xs) ys e =
    let first = if_some_gives (f x) (λ y. if_some (for_each f xs) (λ zs. Some (y ∷ zs))) ys e in
    let rest = if_some_gives (for_each f xs) (λ zs. Some (first.0 ∷ zs)) ys first.2 in
    let whole : first.0 ∷ rest.0 ≡ ys = cc in
    ap length (sym whole) ∙ ap (λ n. suc n) (for_each_length f xs rest.0 rest.1)

pub other_links : (bits : ℕ) (ds : List ℕ) (links : List Value) → ds ≡ set_digits bits → (length links ≡ length ds → ⊥) → None ≡ if_some (for_each cid_of_link links) (by_digit bits)
other_links bits ds links are other = by (for_each cid_of_link links) refl where
  by : (r : Option (List CidParts)) → for_each cid_of_link links ≡ r → None ≡ if_some r (by_digit bits)
  by None e = refl
  by (Some done) e = sym (other_count bits done (λ same. other (sym (for_each_length cid_of_link links done e) ∙ same ∙ ap length (sym are))))

pub no_link : (bits : ℕ) (links : List Value) (i : ℕ) (link : Value) → i < length links → link ≡ get_or links i link → cid_of_link link ≡ None → None ≡ if_some (for_each cid_of_link links) (by_digit bits)
no_link bits links i link lt is none = ap (λ (r : Option (List CidParts)). if_some r (by_digit bits)) (sym (for_each_none cid_of_link links i link lt is none))
