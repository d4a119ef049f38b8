-- What stands at the front of the bytes of a value.
use Rattle.std.proofs.Common.{◌≡◌, ℕ, suc, ◌+◌, ◌*◌, ◌^◌, ◌<◌, Bool, true, false, cond, List, [], ◌∷◌, ◌++◌, length, map, pos, Some, inl, inr, refl, sym, ap, subst, ◌∙◌, arith, append-nil, length-append}
use Rattle.std.proofs.lemmas.Bool.{cases_lt, lt-ltb, le-ltb}
use Rattle.std.proofs.lemmas.List.{nil_from_length}
use Rattle.std.specs.Int.{w16, w32, w64, to_be_bytes}
use Rattle.std.specs.Prelude.{nat_lt}
use Rattle.dag_cbor.specs.Plain.{IsPlain}
use Rattle.dag_cbor.specs.Spelling.{head, joined, spelled}
use Rattle.dag_cbor.specs.declared.value.Value.{Value, out-Value}
use Rattle.dag_cbor.specs.declared.value.Value.TheVariants as v
use Rattle.dag_cbor.proofs.Equations.{IsPlain-pos, PlainCases, bool, blob, cases_of_plain, link, list, map_of, natural, negative, null, text, spelled-Blob, spelled-Bool, spelled-Link, spelled-List, spelled-Map, spelled-Null, spelled-Text, spelled-negsuc, spelled-pos}
use Rattle.dag_cbor.proofs.OneSpelling.{one_spelling_within}
use Rattle.amt_map.specs.Walk.{number_in}

-- ---- heads

-- texts of a head in each major type begin with it, and go on alike
record Begins (text_in : ℕ → List ℕ) : Type 0 where
  low : ℕ
  tail : List ℕ
  small : low < 32
  same : (major : ℕ) → text_in major ≡ (32 * major + low) ∷ tail

abbrev long_head : ℕ → Bool → Bool → Bool → ℕ → List ℕ
long_head n a b c major =
    cond a ((32 * major + 24) ∷ (n ∷ [])) (cond b ((32 * major + 25) ∷ to_be_bytes w16 n) (cond c ((32 * major + 26) ∷ to_be_bytes w32 n) ((32 * major + 27) ∷ to_be_bytes w64 n)))

long_begins : (n : ℕ) (a b c : Bool) → Begins (long_head n a b c)
long_begins n true b c = record { low = 24; tail = n ∷ []; small = omega arith; same = λ major. refl }
long_begins n false true c = record { low = 25; tail = to_be_bytes w16 n; small = omega arith; same = λ major. refl }
long_begins n false false true = record { low = 26; tail = to_be_bytes w32 n; small = omega arith; same = λ major. refl }
long_begins n false false false = record { low = 27; tail = to_be_bytes w64 n; small = omega arith; same = λ major. refl }

head_begins : (n : ℕ) → Begins (λ major. head major n)
unfolding head
head_begins n = elim (cases_lt n 24) [
  | inl lt ↦ record { low = n; tail = []; small = omega (arith, lt); same = λ major. rw (lt-ltb n 24 lt) refl }
  | inr le ↦
      let long = long_begins n (nat_lt n (2 ^ 8)) (nat_lt n (2 ^ 16)) (nat_lt n (2 ^ 32)) in
      record {
        low = long.low;
        tail = long.tail;
        small = long.small;
        same = λ major. ap (λ (t : Bool). cond t ((32 * major + n) ∷ []) (long_head n (nat_lt n (2 ^ 8)) (nat_lt n (2 ^ 16)) (nat_lt n (2 ^ 32)) major)) (le-ltb n 24 le) ∙ long.same major;
      }
]

first_same : (x y : ℕ) (xs ys : List ℕ) → x ∷ xs ≡ y ∷ ys → (x ≡ y) × (xs ≡ ys)
first_same x y xs ys e = (cc, cc)

-- both heads, their majors as they are
both_begin : (major other n k : ℕ) (r s : List ℕ) → head major n ++ r ≡ head other k ++ s
    → (32 * major + (head_begins n).low ≡ 32 * other + (head_begins k).low) × ((head_begins n).tail ++ r ≡ (head_begins k).tail ++ s)
both_begin major other n k r s e =
    first_same _ _ _ _ (ap (λ (t : List ℕ). t ++ r) (sym ((head_begins n).same major)) ∙ e ∙ ap (λ (t : List ℕ). t ++ s) ((head_begins k).same other))

-- texts that begin alike are of one major type
pub one_major : (major other n k : ℕ) (r s : List ℕ) → head major n ++ r ≡ head other k ++ s → major ≡ other
one_major major other n k r s e = omega (arith, (both_begin major other n k r s e).0, (head_begins n).small, (head_begins k).small)

one_number : (n k : ℕ) → v.Int (pos n) ≡ v.Int (pos k) → n ≡ k
one_number n k e = some_is n k (ap number_in (sym (v.outs-Int (pos n))) ∙ ap (λ (x : Value). number_in (out-Value x)) e ∙ ap number_in (v.outs-Int (pos k))) where
  some_is : (n k : ℕ) → Some n ≡ Some k → n ≡ k
  some_is n k e = cc

-- and of one number
pub one_head : (major n k : ℕ) (r s : List ℕ) → n < 2 ^ 64 → k < 2 ^ 64 → head major n ++ r ≡ head major k ++ s → (n ≡ k) × (r ≡ s)
one_head major n k r s small_n small_k e =
    let begin = both_begin major major n k r s e in
    let low : (head_begins n).low ≡ (head_begins k).low = omega (arith, begin.0) in
    let numbers : head 0 n ++ r ≡ head 0 k ++ s =
    ap (λ (t : List ℕ). t ++ r) ((head_begins n).same 0) ∙ (λ i. (32 * 0 + low i) ∷ begin.1 i) ∙ ap (λ (t : List ℕ). t ++ s) (sym ((head_begins k).same 0)) in
    let texts : spelled (v.Int (pos n)) ++ r ≡ spelled (v.Int (pos k)) ++ s = ap (λ (t : List ℕ). t ++ r) (spelled-pos n) ∙ numbers ∙ ap (λ (t : List ℕ). t ++ s) (sym (spelled-pos k)) in
    let same = one_spelling_within 1 (v.Int (pos n)) (v.Int (pos k)) r s (subst (λ (P : Type 0). P) (sym (IsPlain-pos 0 n)) small_n) (subst (λ (P : Type 0). P) (sym (IsPlain-pos 0 k)) small_k) texts in
    (one_number n k same.0, same.1)

-- ---- which value has a head of a major type at its front

other : {P : Type 0} (major wanted n k : ℕ) (bytes r s : List ℕ) → bytes ≡ head major n ++ r → bytes ≡ head wanted k ++ s → (major ≡ wanted → ⊥) → P
other major wanted n k bytes r s is e apart = absurd (apart (one_major major wanted n k r s (sym is ∙ e)))

-- a list of so many items, whose spellings are behind the head
pub record IsListOf (x : Value) (count : ℕ) (rest : List ℕ) : Type 0 where
  pub items : List Value
  pub is_list : x ≡ v.List items
  pub count_is : count ≡ length items
  pub rest_is : rest ≡ joined (map spelled items)

list_by : (d : ℕ) (x : Value) (count : ℕ) (rest : List ℕ) → count < 2 ^ 64 → spelled x ≡ head 4 count ++ rest → PlainCases d x → IsListOf x count rest
list_by d x count rest small e (null is) = other 7 4 22 count (spelled x) [] rest (ap spelled (sym is) ∙ spelled-Null ∙ sym (append-nil (head 7 22))) e (λ same. omega (arith, same))
list_by d x count rest small e (bool b is) = other 7 4 (cond b 21 20) count (spelled x) [] rest (ap spelled (sym is) ∙ spelled-Bool b ∙ sym (append-nil (head 7 (cond b 21 20)))) e (λ same. omega (arith, same))
list_by d x count rest small e (natural n fits is) = other 0 4 n count (spelled x) [] rest (ap spelled (sym is) ∙ spelled-pos n ∙ sym (append-nil (head 0 n))) e (λ same. omega (arith, same))
list_by d x count rest small e (negative n fits is) = other 1 4 n count (spelled x) [] rest (ap spelled (sym is) ∙ spelled-negsuc n ∙ sym (append-nil (head 1 n))) e (λ same. omega (arith, same))
list_by d x count rest small e (blob bytes fits is) = other 2 4 (length bytes) count (spelled x) bytes rest (ap spelled (sym is) ∙ spelled-Blob bytes) e (λ same. omega (arith, same))
list_by d x count rest small e (text bytes fits is) = other 3 4 (length bytes) count (spelled x) bytes rest (ap spelled (sym is) ∙ spelled-Text bytes) e (λ same. omega (arith, same))
list_by d x count rest small e (list items fits plain is) =
    let same = one_head 4 count (length items) rest (joined (map spelled items)) small fits (sym e ∙ ap spelled (sym is) ∙ spelled-List items) in
    record { items = items; is_list = sym is; count_is = same.0; rest_is = same.1 }
list_by d x count rest small e (map_of ps fits rise plain is) = other 5 4 (length ps) count (spelled x) _ rest (ap spelled (sym is) ∙ spelled-Map ps) e (λ same. omega (arith, same))
list_by d x count rest small e (link cid good is) = other 6 4 42 count (spelled x) _ rest (ap spelled (sym is) ∙ spelled-Link cid) e (λ same. omega (arith, same))

pub list_of_head : (d : ℕ) (x : Value) (count : ℕ) (rest : List ℕ) → IsPlain (suc d) x → count < 2 ^ 64 → spelled x ≡ head 4 count ++ rest → IsListOf x count rest
list_of_head d x count rest plain small e = list_by d x count rest small e (cases_of_plain d x plain)

-- all of the bytes behind a head of their number
no_more : (bytes content rest : List ℕ) → bytes ≡ content ++ rest → length content ≡ length bytes → bytes ≡ content
no_more bytes content rest e same =
    let count : length bytes ≡ length content + length rest = ap length e ∙ length-append content rest in
    e ∙ ap (λ (r : List ℕ). content ++ r) (nil_from_length rest (omega (arith, count, same))) ∙ append-nil content

blob_by : (d : ℕ) (x : Value) (content rest : List ℕ) → length content < 2 ^ 64 → spelled x ≡ head 2 (length content) ++ (content ++ rest) → PlainCases d x → x ≡ v.Blob content
blob_by d x content rest small e (null is) = other 7 2 22 (length content) (spelled x) [] _ (ap spelled (sym is) ∙ spelled-Null ∙ sym (append-nil (head 7 22))) e (λ same. omega (arith, same))
blob_by d x content rest small e (bool b is) = other 7 2 (cond b 21 20) (length content) (spelled x) [] _ (ap spelled (sym is) ∙ spelled-Bool b ∙ sym (append-nil (head 7 (cond b 21 20)))) e (λ same. omega (arith, same))
blob_by d x content rest small e (natural n fits is) = other 0 2 n (length content) (spelled x) [] _ (ap spelled (sym is) ∙ spelled-pos n ∙ sym (append-nil (head 0 n))) e (λ same. omega (arith, same))
blob_by d x content rest small e (negative n fits is) = other 1 2 n (length content) (spelled x) [] _ (ap spelled (sym is) ∙ spelled-negsuc n ∙ sym (append-nil (head 1 n))) e (λ same. omega (arith, same))
blob_by d x content rest small e (blob bytes fits is) =
    let same = one_head 2 (length content) (length bytes) (content ++ rest) bytes small fits (sym e ∙ ap spelled (sym is) ∙ spelled-Blob bytes) in
    sym is ∙ ap (λ (b : List ℕ). v.Blob b) (no_more bytes content rest (sym same.1) same.0)
blob_by d x content rest small e (text bytes fits is) = other 3 2 (length bytes) (length content) (spelled x) bytes _ (ap spelled (sym is) ∙ spelled-Text bytes) e (λ same. omega (arith, same))
blob_by d x content rest small e (list items fits plain is) = other 4 2 (length items) (length content) (spelled x) _ _ (ap spelled (sym is) ∙ spelled-List items) e (λ same. omega (arith, same))
blob_by d x content rest small e (map_of ps fits rise plain is) = other 5 2 (length ps) (length content) (spelled x) _ _ (ap spelled (sym is) ∙ spelled-Map ps) e (λ same. omega (arith, same))
blob_by d x content rest small e (link cid good is) = other 6 2 42 (length content) (spelled x) _ _ (ap spelled (sym is) ∙ spelled-Link cid) e (λ same. omega (arith, same))

pub blob_of_head : (d : ℕ) (x : Value) (content rest : List ℕ) → IsPlain (suc d) x → length content < 2 ^ 64 → spelled x ≡ head 2 (length content) ++ (content ++ rest) → x ≡ v.Blob content
blob_of_head d x content rest plain small e = blob_by d x content rest small e (cases_of_plain d x plain)
