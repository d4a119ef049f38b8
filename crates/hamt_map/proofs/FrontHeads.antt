-- What a head at the front says: no head begins another, nor one of another kind.
use Rattle.std.proofs.Common.{◌≡◌, ℕ, ◌+◌, ◌*◌, ◌^◌, ◌<◌, Bool, true, false, ltb, pos, negsuc, List, [], ◌∷◌, ◌++◌, refl, sym, ap, ◌∙◌, arith}
use Rattle.std.proofs.lemmas.Bool.{ltb-true}
use Rattle.std.specs.Int.{w16, w32, w64, to_be_bytes}
use Rattle.dag_cbor.specs.Plain.{IsPlain}
use Rattle.dag_cbor.specs.Spelling.{head, spelled}
use Rattle.dag_cbor.specs.declared.value.Value.{Value, Value-F, out-Value}
use Rattle.dag_cbor.specs.declared.value.Value.TheOpen as layer
use Rattle.dag_cbor.specs.declared.value.Value.TheVariants as v
use Rattle.dag_cbor.proofs.Equations.{IsPlain-pos, spelled-pos}
use Rattle.dag_cbor.proofs.OneSpelling.{one_spelling_within}

-- the low bits of a head's first byte, and the bytes behind it
pub record Parts (n : ℕ) : Type 0 where
  pub low : ℕ
  pub behind : List ℕ
  pub small : low < 32
  pub are : (major : ℕ) → head major n ≡ (32 * major + low) ∷ behind

pub parts : (n : ℕ) → Parts n
unfolding head
parts n = by (ltb n 24) (ltb n (2 ^ 8)) (ltb n (2 ^ 16)) (ltb n (2 ^ 32)) refl refl refl refl where
  by : (a b c d : Bool) → ltb n 24 ≡ a → ltb n (2 ^ 8) ≡ b → ltb n (2 ^ 16) ≡ c → ltb n (2 ^ 32) ≡ d → Parts n
  by true b c d ea eb ec ed = record { low = n; behind = []; small = omega (arith, ltb-true n 24 ea); are = λ major. rw ea refl }
  by false true c d ea eb ec ed = record { low = 24; behind = n ∷ []; small = omega arith; are = λ major. rw (ea, eb) refl }
  by false false true d ea eb ec ed = record { low = 25; behind = to_be_bytes w16 n; small = omega arith; are = λ major. rw (ea, eb, ec) refl }
  by false false false true ea eb ec ed = record { low = 26; behind = to_be_bytes w32 n; small = omega arith; are = λ major. rw (ea, eb, ec, ed) refl }
  by false false false false ea eb ec ed = record { low = 27; behind = to_be_bytes w64 n; small = omega arith; are = λ major. rw (ea, eb, ec, ed) refl }

-- heads that are alike are of one kind, and so are those of integers with these numbers
pub same_kind : (a b n m : ℕ) (r s : List ℕ) → head a n ++ r ≡ head b m ++ s → (a ≡ b) × (head 0 n ++ r ≡ head 0 m ++ s)
same_kind a b n m r s e =
    let p = parts n in
    let q = parts m in
    let both : ◌≡◌ {A = List ℕ} ((32 * a + p.low) ∷ (p.behind ++ r)) ((32 * b + q.low) ∷ (q.behind ++ s)) = sym (ap (λ (t : List ℕ). t ++ r) (p.are a)) ∙ e ∙ ap (λ (t : List ℕ). t ++ s) (q.are b) in
    let first : 32 * a + p.low ≡ 32 * b + q.low = cc both in
    let rest : p.behind ++ r ≡ q.behind ++ s = cc both in
    let low : p.low ≡ q.low = omega (arith, first, p.small, q.small) in (
      omega (arith, first, p.small, q.small),
      ap (λ (t : List ℕ). t ++ r) (p.are 0) ∙ (λ i. (32 * 0 + low i) ∷ rest i) ∙ sym (ap (λ (t : List ℕ). t ++ s) (q.are 0)),
    )

abbrev number_in : Value-F Value → ℕ
number_in layer.Null = 0
number_in (layer.Bool b) = 0
number_in (layer.Int (pos n)) = n
number_in (layer.Int (negsuc n)) = 0
number_in (layer.Blob bytes) = 0
number_in (layer.Text bytes) = 0
number_in (layer.List items) = 0
number_in (layer.Map pairs) = 0
number_in (layer.Link cid) = 0

integer_plain : (n : ℕ) → n < 2 ^ 64 → IsPlain 1 (v.Int (pos n))
integer_plain n small = rw (IsPlain-pos 0 n) small

-- heads of one kind that are alike have one number
pub same_number : (a n m : ℕ) (r s : List ℕ) → n < 2 ^ 64 → m < 2 ^ 64 → head a n ++ r ≡ head a m ++ s → (n ≡ m) × (r ≡ s)
same_number a n m r s fits fits-m e =
    let integers : spelled (v.Int (pos n)) ++ r ≡ spelled (v.Int (pos m)) ++ s =
    ap (λ (t : List ℕ). t ++ r) (spelled-pos n) ∙ (same_kind a a n m r s e).1 ∙ sym (ap (λ (t : List ℕ). t ++ s) (spelled-pos m)) in
    let both = one_spelling_within 1 (v.Int (pos n)) (v.Int (pos m)) r s (integer_plain n fits) (integer_plain m fits-m) integers in (
      sym (ap number_in (v.outs-Int (pos n))) ∙ ap (λ (x : Value). number_in (out-Value x)) both.0 ∙ ap number_in (v.outs-Int (pos m)),
      both.1,
    )
