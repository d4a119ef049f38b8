-- Heads: what is read is spelled so, and what is spelled is read again.
use Rattle.std.proofs.Common.{◌≡◌, ℕ, ◌+◌, ◌*◌, ◌/◌, ◌%◌, ◌^◌, ◌<◌, ◌≤◌, ltb, eqb, not, Bool, true, false, cond, ◌&&◌, ◌||◌, List, [], ◌∷◌, ◌++◌, length, Result, Ok, Option, Some, None, refl, sym, ap, subst, ◌∙◌, arith, inl, inr}
use Rattle.std.specs.Int.{Width, w8, w16, w32, w64, to_be_bytes}
use Rattle.std.proofs.lemmas.Bool.{cases_lt, cases_eq, both_ways, lt-ltb, le-ltb, ltb-false, eqb-true, eqb-false, ne_eqb, and_cases, and_left, and_right}
use Rattle.std.proofs.lemmas.Bool.Decides.{nat_tests}
use Rattle.std.proofs.Math.Nat.{mod-eq_of_lt}
use Rattle.dag_cbor.specs.declared.fault.CborKind.{CborKind}
use Rattle.dag_cbor.specs.declared.fault.CborKind.TheVariants as kinds
use Rattle.dag_cbor.specs.declared.fault.Flaw.{Flaw}
use Rattle.dag_cbor.specs.declared.head.RawHead.{RawHead}
use Rattle.dag_cbor.specs.declared.head.Head.{Head}
use Rattle.dag_cbor.specs.Spelling.{head}
use Rattle.dag_cbor.specs.HeadRows.{least, shows, head_fault}
use Rattle.dag_cbor.specs.Reading.{◌>>=◌, number_at, number_behind, with_number, raw_head_at, unless, judged, head_at}
use Rattle.dag_cbor.proofs.Steps.{bind_ok, ok_is, chosen}
use Rattle.dag_cbor.proofs.Numbers.{IsBytes, IsBytes-rest, Takes, IsWide, wide8, wide16, wide32, wide64, number_takes, number_again}

-- ---- the spelling of a head, by how large its number is

pub head-short : (major n : ℕ) → n < 24 → head major n ≡ (32 * major + n) ∷ []
unfolding head
head-short major n lt = rw (lt-ltb n 24 lt) refl

head-8 : (major n : ℕ) → 24 ≤ n → n < 2 ^ 8 → head major n ≡ (32 * major + 24) ∷ to_be_bytes w8 n
unfolding head
head-8 major n le lt = rw (le-ltb n 24 le, lt-ltb n (2 ^ 8) lt, mod-eq_of_lt lt) refl

head-16 : (major n : ℕ) → 2 ^ 8 ≤ n → n < 2 ^ 16 → head major n ≡ (32 * major + 25) ∷ to_be_bytes w16 n
unfolding head
head-16 major n le lt = let at_24 : 24 ≤ n = omega arith in rw (le-ltb n 24 at_24, le-ltb n (2 ^ 8) le, lt-ltb n (2 ^ 16) lt) refl

head-32 : (major n : ℕ) → 2 ^ 16 ≤ n → n < 2 ^ 32 → head major n ≡ (32 * major + 26) ∷ to_be_bytes w32 n
unfolding head
head-32 major n le lt =
    let at_24 : 24 ≤ n = omega arith in
    let at_8 : 2 ^ 8 ≤ n = omega arith in
    rw (le-ltb n 24 at_24, le-ltb n (2 ^ 8) at_8, le-ltb n (2 ^ 16) le, lt-ltb n (2 ^ 32) lt) refl

head-64 : (major n : ℕ) → 2 ^ 32 ≤ n → head major n ≡ (32 * major + 27) ∷ to_be_bytes w64 n
unfolding head
head-64 major n le =
    let at_24 : 24 ≤ n = omega arith in
    let at_8 : 2 ^ 8 ≤ n = omega arith in
    let at_16 : 2 ^ 16 ≤ n = omega arith in
    rw (le-ltb n 24 at_24, le-ltb n (2 ^ 8) at_8, le-ltb n (2 ^ 16) at_16, le-ltb n (2 ^ 32) le) refl

-- ---- heads that have no fault by themselves

-- which heads have none
pub record IsGood (major info number : ℕ) : Type 0 where
  pub long : major < 7 → least info ≤ number
  pub low : info < 28
  pub tag : major ≡ 6 → number ≡ 42
  pub simple : major ≡ 7 → (20 ≤ info) × (info ≤ 22)

passes : (b : Bool) (kind : CborKind) (others : Option CborKind) → cond b (Some kind) others ≡ None → (b ≡ false) × (others ≡ None)
passes true kind others e = absurd cc
passes false kind others e = (refl, e)

long_good : (major info number : ℕ) → (ltb major 7 && ltb number (least info)) ≡ false → major < 7 → least info ≤ number
long_good major info number e lt =
    elim (and_cases (ltb major 7) (ltb number (least info)) e) [
      | inl high ↦ absurd (both_ways _ high (lt-ltb _ _ lt))
      | inr enough ↦ ltb-false _ _ enough
    ]

low_good : (major info : ℕ) → info < 32 → ((ltb 27 info && ltb info 31) || (eqb info 31 && (ltb major 2 || eqb major 6))) ≡ false → (eqb info 31 && ltb 1 major && not (eqb major 6)) ≡ false → info < 28
low_good major info lt reserved indefinite = grind (arith, nat_tests)

simple_good : (major info : ℕ) → (eqb major 7 && ltb 24 info && ltb info 28) ≡ false → (eqb major 7 && (ltb info 20 || (ltb 22 info && ltb info 25))) ≡ false → info < 28 → major ≡ 7 → (20 ≤ info) × (info ≤ 22)
simple_good major info float other low is = (grind (arith, nat_tests), grind (arith, nat_tests))

tag_good : (major number : ℕ) → (eqb major 6 && not (eqb number 42)) ≡ false → major ≡ 6 → number ≡ 42
tag_good major number e is = grind (arith, nat_tests)

pub good_is : (h : RawHead) → h.info < 32 → head_fault h ≡ None → IsGood h.major h.info h.number
unfolding head_fault shows
good_is h lt e =
    let long = passes (shows h kinds.LongHead) kinds.LongHead _ e in
    let reserved = passes (shows h kinds.Reserved) kinds.Reserved _ long.1 in
    let indefinite = passes (shows h kinds.Indefinite) kinds.Indefinite _ reserved.1 in
    let float = passes (shows h kinds.Float) kinds.Float _ indefinite.1 in
    let other = passes (shows h kinds.Simple) kinds.Simple _ float.1 in
    let tag = passes (shows h kinds.Tag) kinds.Tag _ other.1 in
    let low = low_good h.major h.info lt reserved.0 indefinite.0 in
    record { long = long_good h.major h.info h.number long.0; low = low; tag = tag_good h.major h.number tag.0; simple = simple_good h.major h.info float.0 other.0 low }

long_passes : (major info number : ℕ) → IsGood major info number → (ltb major 7 && ltb number (least info)) ≡ false
long_passes major info number good =
    elim (cases_lt major 7) [
      | inl lt ↦ and_right (ltb major 7) (ltb number (least info)) (le-ltb number (least info) (good.long lt))
      | inr ge ↦ and_left (ltb major 7) (ltb number (least info)) (le-ltb major 7 ge)
    ]

reserved_passes : (major info : ℕ) → info < 28 → ((ltb 27 info && ltb info 31) || (eqb info 31 && (ltb major 2 || eqb major 6))) ≡ false
reserved_passes major info lt = grind (arith, nat_tests)

indefinite_passes : (major info : ℕ) → info < 28 → (eqb info 31 && ltb 1 major && not (eqb major 6)) ≡ false
indefinite_passes major info lt = grind (arith, nat_tests)

float_passes : (major info : ℕ) → (major ≡ 7 → (20 ≤ info) × (info ≤ 22)) → (eqb major 7 && ltb 24 info && ltb info 28) ≡ false
float_passes major info simple =
    elim (cases_eq major 7) [
      | inl is ↦ let h = simple is in rw (is, le-ltb 24 info (omega arith)) refl
      | inr ne ↦ rw (ne_eqb major 7 ne) refl
    ]

simple_passes : (major info : ℕ) → (major ≡ 7 → (20 ≤ info) × (info ≤ 22)) → (eqb major 7 && (ltb info 20 || (ltb 22 info && ltb info 25))) ≡ false
simple_passes major info simple =
    elim (cases_eq major 7) [
      | inl is ↦ let h = simple is in rw (is, le-ltb info 20 h.0, le-ltb 22 info h.1) refl
      | inr ne ↦ rw (ne_eqb major 7 ne) refl
    ]

tag_passes : (major number : ℕ) → (major ≡ 6 → number ≡ 42) → (eqb major 6 && not (eqb number 42)) ≡ false
tag_passes major number tag =
    elim (cases_eq major 6) [
      | inl is ↦ rw (is, tag is) refl
      | inr ne ↦ rw (ne_eqb major 6 ne) refl
    ]

is_good : (major info number : ℕ) → IsGood major info number → head_fault (record { major = major; info = info; number = number }) ≡ None
unfolding head_fault shows
is_good major info number good =
    rw (long_passes major info number good, reserved_passes major info good.low, indefinite_passes major info good.low, float_passes major info good.simple, simple_passes major info good.simple, tag_passes major number good.tag) refl

-- ---- what is read is spelled so

-- where the number of a head is
data NumberCases (info : ℕ) (bytes : List ℕ) (n : ℕ × List ℕ) : Type 0 where
  here : (info ≡ 24 → ⊥) → (info ≡ 25 → ⊥) → (info ≡ 26 → ⊥) → (info ≡ 27 → ⊥) → (info, bytes) ≡ n → NumberCases info bytes n
  in_8 : info ≡ 24 → number_at w8 bytes ≡ Ok n → NumberCases info bytes n
  in_16 : info ≡ 25 → number_at w16 bytes ≡ Ok n → NumberCases info bytes n
  in_32 : info ≡ 26 → number_at w32 bytes ≡ Ok n → NumberCases info bytes n
  in_64 : info ≡ 27 → number_at w64 bytes ≡ Ok n → NumberCases info bytes n

number_cases : (info : ℕ) (bytes : List ℕ) (n : ℕ × List ℕ) → number_behind info bytes ≡ Ok n → NumberCases info bytes n
number_cases info bytes n e =
    let l : Result (ℕ × List ℕ) Flaw = cond (eqb info 27) (number_at w64 bytes) (Ok (info, bytes)) in
    let m : Result (ℕ × List ℕ) Flaw = cond (eqb info 26) (number_at w32 bytes) l in
    let k : Result (ℕ × List ℕ) Flaw = cond (eqb info 25) (number_at w16 bytes) m in
    elim (chosen (eqb info 24) (number_at w8 bytes) k (Ok n) e) [
      | inl p ↦ in_8 (eqb-true _ _ p.0) p.1
      | inr p ↦ elim (chosen (eqb info 25) (number_at w16 bytes) m (Ok n) p.1) [
        | inl q ↦ in_16 (eqb-true _ _ q.0) q.1
        | inr q ↦ elim (chosen (eqb info 26) (number_at w32 bytes) l (Ok n) q.1) [
          | inl r ↦ in_32 (eqb-true _ _ r.0) r.1
          | inr r ↦ elim (chosen (eqb info 27) (number_at w64 bytes) (Ok (info, bytes)) (Ok n) r.1) [
            | inl s ↦ in_64 (eqb-true _ _ s.0) s.1
            | inr s ↦ here (eqb-false _ _ p.0) (eqb-false _ _ q.0) (eqb-false _ _ r.0) (eqb-false _ _ s.0) (ok_is _ _ s.1)
          ]
        ]
      ]
    ]

-- a head of this major type whose number is n, and what follows its first byte
record TakesNumber (major info : ℕ) (bytes : List ℕ) (n : ℕ × List ℕ) : Type 0 where
  pub spelling : Takes ((32 * major + info) ∷ bytes) (head major n.0) n.1
  pub fits : n.0 < 2 ^ 64
  pub simple : major ≡ 7 → (20 ≤ n.0) × (n.0 ≤ 22)

long_takes : (w : Width) (limit : ℕ) (wide : IsWide w limit) (major info least_is : ℕ) (bytes : List ℕ) (n : ℕ × List ℕ) → limit ≤ 2 ^ 64
    → ((n : ℕ) → least_is ≤ n → n < limit → head major n ≡ (32 * major + info) ∷ to_be_bytes w n)
    → IsBytes bytes → least_is ≤ n.0 → (major ≡ 7 → ⊥) → number_at w bytes ≡ Ok n → TakesNumber major info bytes n
long_takes w limit wide major info least_is bytes n wide-fits spelling fits le other e =
    let t = number_takes w limit wide bytes n.0 n.1 fits e in
    record {
      spelling = record { parts = ap (λ (bs : List ℕ). (32 * major + info) ∷ bs) t.0.parts ∙ ap (λ (bs : List ℕ). bs ++ n.1) (sym (spelling n.0 le t.1)); rest_fits = t.0.rest_fits };
      fits = omega (arith, t.1);
      simple = λ is. absurd (other is);
    }

-- a head with its number behind it is none of a simple value
not_simple : (major info number : ℕ) → IsGood major info number → 22 < info → major ≡ 7 → ⊥
not_simple major info number good lt is = let h = good.simple is in omega arith

enough : (major info number : ℕ) → IsGood major info number → major ≤ 7 → 22 < info → least info ≤ number
enough major info number good le lt =
    elim (cases_eq major 7) [
      | inl is ↦ absurd (not_simple major info number good lt is)
      | inr ne ↦ good.long (omega arith)
    ]

behind_takes : (major info : ℕ) (bytes : List ℕ) (n : ℕ × List ℕ) → major ≤ 7 → IsBytes bytes → IsGood major info n.0 → NumberCases info bytes n → TakesNumber major info bytes n
behind_takes major info bytes n le fits good (here a b c d e) =
    let low = good.low in
    let lt : info < 24 = omega arith in
    let is : n.0 ≡ info = sym (ap (λ (x : ℕ × List ℕ). x.0) e) in
    let after : n.1 ≡ bytes = sym (ap (λ (x : ℕ × List ℕ). x.1) e) in
    record {
      spelling = record { parts = rw (is, after, head-short major info lt) refl; rest_fits = rw after fits };
      fits = omega arith;
      simple = λ seven. let h = good.simple seven in (omega arith, omega arith);
    }
behind_takes major info bytes n le fits good (in_8 is e) =
    let h : 24 ≤ n.0 = subst (λ (i : ℕ). least i ≤ n.0) is (enough major info n.0 good le (omega arith)) in
    subst (λ (i : ℕ). TakesNumber major i bytes n) (sym is) (long_takes w8 (2 ^ 8) wide8 major 24 24 bytes n (omega arith) (λ n le lt. head-8 major n le lt) fits h (not_simple major info n.0 good (omega arith)) e)
behind_takes major info bytes n le fits good (in_16 is e) =
    let h : 2 ^ 8 ≤ n.0 = subst (λ (i : ℕ). least i ≤ n.0) is (enough major info n.0 good le (omega arith)) in
    subst (λ (i : ℕ). TakesNumber major i bytes n) (sym is) (long_takes w16 (2 ^ 16) wide16 major 25 (2 ^ 8) bytes n (omega arith) (λ n le lt. head-16 major n le lt) fits h (not_simple major info n.0 good (omega arith)) e)
behind_takes major info bytes n le fits good (in_32 is e) =
    let h : 2 ^ 16 ≤ n.0 = subst (λ (i : ℕ). least i ≤ n.0) is (enough major info n.0 good le (omega arith)) in
    subst (λ (i : ℕ). TakesNumber major i bytes n) (sym is) (long_takes w32 (2 ^ 32) wide32 major 26 (2 ^ 16) bytes n (omega arith) (λ n le lt. head-32 major n le lt) fits h (not_simple major info n.0 good (omega arith)) e)
behind_takes major info bytes n le fits good (in_64 is e) =
    let h : 2 ^ 32 ≤ n.0 = subst (λ (i : ℕ). least i ≤ n.0) is (enough major info n.0 good le (omega arith)) in
    subst (λ (i : ℕ). TakesNumber major i bytes n) (sym is) (long_takes w64 (2 ^ 64) wide64 major 27 (2 ^ 32) bytes n (omega arith) (λ n le lt. head-64 major n le) fits h (not_simple major info n.0 good (omega arith)) e)

pub unless_ok : (fault : Option CborKind) (left : ℕ) (x y : Head × List ℕ) → unless fault left x ≡ Ok y → (fault ≡ None) × (x ≡ y)
unless_ok None left x y e = (refl, cc)
unless_ok (Some kind) left x y e = absurd cc

-- what a head took
pub record TakesHead (bytes : List ℕ) (h : Head × List ℕ) : Type 0 where
  pub spelling : Takes bytes (head h.0.major h.0.number) h.1
  pub fits : h.0.number < 2 ^ 64
  pub major : h.0.major ≤ 7
  pub tag : h.0.major ≡ 6 → h.0.number ≡ 42
  pub simple : h.0.major ≡ 7 → (20 ≤ h.0.number) × (h.0.number ≤ 22)

raw_takes : (bytes : List ℕ) (x : RawHead × List ℕ) → IsBytes bytes → raw_head_at bytes ≡ Ok x → head_fault x.0 ≡ None → TakesHead bytes (record { major = x.0.major; number = x.0.number }, x.1)
unfolding raw_head_at
raw_takes [] x fits e none = absurd cc
raw_takes (first ∷ rest) x fits e none =
    let n = bind_ok (number_behind (first % 32) rest) (with_number (first / 32) (first % 32)) x e in
    let is : (record { major = first / 32; info = first % 32; number = n.0.0 }, n.0.1) ≡ x = ok_is _ _ n.2 in
    let byte = fits 0 in
    let low : first / 32 ≤ 7 = omega arith in
    let whole : 32 * (first / 32) + first % 32 ≡ first = omega arith in
    let good : IsGood (first / 32) (first % 32) n.0.0 = good_is (record { major = first / 32; info = first % 32; number = n.0.0 }) (omega arith) (ap (λ (y : RawHead × List ℕ). head_fault y.0) is ∙ none) in
    let t = behind_takes (first / 32) (first % 32) rest n.0 low (IsBytes-rest first rest fits) good (number_cases (first % 32) rest n.0 n.1) in
    subst (λ (y : RawHead × List ℕ). TakesHead (first ∷ rest) (record { major = y.0.major; number = y.0.number }, y.1)) is
    (record { spelling = subst (λ (b : ℕ). Takes (b ∷ rest) (head (first / 32) n.0.0) n.0.1) whole t.spelling; fits = t.fits; major = low; tag = good.tag; simple = t.simple })

pub head_takes : (bytes : List ℕ) (h : Head × List ℕ) → IsBytes bytes → head_at bytes ≡ Ok h → TakesHead bytes h
unfolding head_at
head_takes bytes h fits e =
    let r = bind_ok (raw_head_at bytes) (judged (length bytes)) h e in
    let u = unless_ok (head_fault r.0.0) (length bytes) (record { major = r.0.0.major; number = r.0.0.number }, r.0.1) h r.2 in
    subst (TakesHead bytes) u.1 (raw_takes bytes r.0 fits r.1 u.0)

-- ---- what is spelled is read again

first_again : (major info : ℕ) (rest : List ℕ) → info < 32 → raw_head_at ((32 * major + info) ∷ rest) ≡ (number_behind info rest >>= with_number major info)
unfolding raw_head_at
first_again major info rest lt =
    let high : (32 * major + info) / 32 ≡ major = omega arith in
    let low : (32 * major + info) % 32 ≡ info = omega arith in
    ap (λ (m : ℕ). number_behind ((32 * major + info) % 32) rest >>= with_number m ((32 * major + info) % 32)) high ∙ ap (λ (i : ℕ). number_behind i rest >>= with_number major i) low

long_again : (w : Width) (limit : ℕ) (wide : IsWide w limit) (major info n : ℕ) (rest : List ℕ) → info < 32 → number_behind info (to_be_bytes w n ++ rest) ≡ number_at w (to_be_bytes w n ++ rest) → n < limit
    → raw_head_at ((32 * major + info) ∷ (to_be_bytes w n ++ rest)) ≡ Ok (record { major = major; info = info; number = n }, rest)
long_again w limit wide major info n rest low there lt =
    first_again major info (to_be_bytes w n ++ rest) low ∙ ap (λ (r : Result (ℕ × List ℕ) Flaw). r >>= with_number major info) (there ∙ number_again w limit wide n rest lt)

short_again : (major n : ℕ) (rest : List ℕ) → n < 24 → raw_head_at ((32 * major + n) ∷ rest) ≡ Ok (record { major = major; info = n; number = n }, rest)
short_again major n rest lt =
    let a : eqb n 24 ≡ false = ne_eqb n 24 (λ e. omega arith) in
    let b : eqb n 25 ≡ false = ne_eqb n 25 (λ e. omega arith) in
    let c : eqb n 26 ≡ false = ne_eqb n 26 (λ e. omega arith) in
    let d : eqb n 27 ≡ false = ne_eqb n 27 (λ e. omega arith) in
    first_again major n rest (omega arith) ∙ rw (a, b, c, d) refl

short_least : (n : ℕ) → n < 24 → least n ≤ n
short_least n lt =
    let a : eqb n 24 ≡ false = ne_eqb n 24 (λ e. omega arith) in
    let b : eqb n 25 ≡ false = ne_eqb n 25 (λ e. omega arith) in
    let c : eqb n 26 ≡ false = ne_eqb n 26 (λ e. omega arith) in
    let d : eqb n 27 ≡ false = ne_eqb n 27 (λ e. omega arith) in
    rw (a, b, c, d) (omega arith)

good_again : (bytes : List ℕ) (major info n : ℕ) (rest : List ℕ) → raw_head_at bytes ≡ Ok (record { major = major; info = info; number = n }, rest) → IsGood major info n
    → head_at bytes ≡ Ok (record { major = major; number = n }, rest)
unfolding head_at
good_again bytes major info n rest e good =
    ap (λ (r : Result (RawHead × List ℕ) Flaw). r >>= judged (length bytes)) e
    ∙ ap (λ (f : Option CborKind). unless f (length bytes) (record { major = major; number = n }, rest)) (is_good major info n good)

pub head_again : (major n : ℕ) (rest : List ℕ) → n < 2 ^ 64 → (major ≡ 6 → n ≡ 42) → (major ≡ 7 → (20 ≤ n) × (n ≤ 22)) → head_at (head major n ++ rest) ≡ Ok (record { major = major; number = n }, rest)
head_again major n rest fits tag simple =
    let far : 22 < n → major ≡ 7 → ⊥ = λ lt is. let h = simple is in omega arith in
    elim (cases_lt n 24) [
      | inl lt ↦ ap (λ (bs : List ℕ). head_at (bs ++ rest)) (head-short major n lt) ∙ good_again ((32 * major + n) ∷ rest) major n n rest (short_again major n rest lt) (record { long = λ _. short_least n lt; low = omega arith; tag = tag; simple = simple })
      | inr at_24 ↦ elim (cases_lt n (2 ^ 8)) [
        | inl lt ↦ ap (λ (bs : List ℕ). head_at (bs ++ rest)) (head-8 major n at_24 lt) ∙ good_again ((32 * major + 24) ∷ (to_be_bytes w8 n ++ rest)) major 24 n rest (long_again w8 (2 ^ 8) wide8 major 24 n rest (omega arith) refl lt) (record { long = λ _. at_24; low = omega arith; tag = tag; simple = λ is. absurd (far (omega arith) is) })
        | inr at_8 ↦ elim (cases_lt n (2 ^ 16)) [
          | inl lt ↦ ap (λ (bs : List ℕ). head_at (bs ++ rest)) (head-16 major n at_8 lt) ∙ good_again ((32 * major + 25) ∷ (to_be_bytes w16 n ++ rest)) major 25 n rest (long_again w16 (2 ^ 16) wide16 major 25 n rest (omega arith) refl lt) (record { long = λ _. at_8; low = omega arith; tag = tag; simple = λ is. absurd (far (omega arith) is) })
          | inr at_16 ↦ elim (cases_lt n (2 ^ 32)) [
            | inl lt ↦ ap (λ (bs : List ℕ). head_at (bs ++ rest)) (head-32 major n at_16 lt) ∙ good_again ((32 * major + 26) ∷ (to_be_bytes w32 n ++ rest)) major 26 n rest (long_again w32 (2 ^ 32) wide32 major 26 n rest (omega arith) refl lt) (record { long = λ _. at_16; low = omega arith; tag = tag; simple = λ is. absurd (far (omega arith) is) })
            | inr at_32 ↦ ap (λ (bs : List ℕ). head_at (bs ++ rest)) (head-64 major n at_32) ∙ good_again ((32 * major + 27) ∷ (to_be_bytes w64 n ++ rest)) major 27 n rest (long_again w64 (2 ^ 64) wide64 major 27 n rest (omega arith) refl fits) (record { long = λ _. at_32; low = omega arith; tag = tag; simple = λ is. absurd (far (omega arith) is) })
          ]
        ]
      ]
    ]
