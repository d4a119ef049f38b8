-- Whether values have spellings: the steps of the judge.
use Rattle.std.proofs.Common.{◌≡◌, ℕ, zero, suc, ◌+◌, ◌-◌, ◌^◌, ◌<◌, ◌≤◌, ◌↔◌, Bool, true, false, IsTrue, ℤ, List, [], ◌∷◌, length, get_or, map, take, All, refl, sym, ap, subst, ◌∙◌, arith, inl, inr}
use Rattle.std.proofs.lemmas.Bool.{false≢true, cases_lt}
use Rattle.std.proofs.lemmas.List.{get_or-map, length-map, take_all}
use Rattle.std.proofs.lemmas.List.Elements.{All-from_recursion, recursion_from_All, All-more}
use Rattle.std.specs.declared.cmp.Ordering.TheVariants.{Less}
use Rattle.fil_base.specs.CidParts.{CidParts, IsCid}
use Rattle.dag_cbor.specs.declared.value.Value.{Value}
use Rattle.dag_cbor.specs.declared.value.Value.TheVariants as v
use Rattle.dag_cbor.specs.declared.value.Value.TheOpen as layer
use Rattle.dag_cbor.specs.Plain.{IsPlain, IsPlainLayer, IsText, KeysRise, key_cmp}
use Rattle.dag_cbor.proofs.Equations.{keys_of, IsPlain-zero, IsPlain-Null, IsPlain-Bool, IsPlain-Blob, IsPlain-Text, IsPlain-List, IsPlain-Map, IsPlain-Link}
use Rattle.dag_cbor.proofs.PutSteps.{IsPlain-Int}

-- ---- the variants

-- nothing has the depth 0
pub judged-zero : (d : ℕ) (x : Value) → d ≡ 0 → IsTrue false ↔ IsPlain d x
judged-zero zero x none = (λ no. absurd (false≢true no), λ plain. absurd (IsPlain-zero x plain))
judged-zero (suc d) x none = absurd (omega arith)

pub judged-Null : (d : ℕ) (x : Value) → (d ≡ 0 → ⊥) → x ≡ v.Null → IsTrue true ↔ IsPlain d x
judged-Null zero x some is = absurd (some refl)
judged-Null (suc d) x some is = rw (is, IsPlain-Null d) (λ _. tt, λ _. refl)

pub judged-Bool : (d : ℕ) (x : Value) (b : Bool) → (d ≡ 0 → ⊥) → x ≡ v.Bool b → IsTrue true ↔ IsPlain d x
judged-Bool zero x b some is = absurd (some refl)
judged-Bool (suc d) x b some is = rw (is, IsPlain-Bool d b) (λ _. tt, λ _. refl)

pub judged-Int : (d : ℕ) (x : Value) (i : ℤ) (r : Bool) → (d ≡ 0 → ⊥) → x ≡ v.Int i → IsTrue r ↔ IsPlainLayer (IsPlain 0) (layer.Int i) → IsTrue r ↔ IsPlain d x
judged-Int zero x i r some is h = absurd (some refl)
judged-Int (suc d) x i r some is h = rw (is, IsPlain-Int d 0 i) h

pub judged-Blob : (d : ℕ) (x : Value) (bytes slice : List ℕ) (r : Bool) → (d ≡ 0 → ⊥) → x ≡ v.Blob bytes → slice ≡ bytes → IsTrue r ↔ (length slice < 2 ^ 64) → IsTrue r ↔ IsPlain d x
judged-Blob zero x bytes slice r some is same h = absurd (some refl)
judged-Blob (suc d) x bytes slice r some is same h = rw (is, IsPlain-Blob d bytes, ← same) h

pub judged-Text : (d : ℕ) (x : Value) (bytes slice : List ℕ) (r : Bool) → (d ≡ 0 → ⊥) → x ≡ v.Text bytes → slice ≡ bytes → IsTrue r ↔ IsText slice → IsTrue r ↔ IsPlain d x
judged-Text zero x bytes slice r some is same h = absurd (some refl)
judged-Text (suc d) x bytes slice r some is same h = rw (is, IsPlain-Text d bytes, ← same) h

pub judged-List : (d : ℕ) (x : Value) (vs items : List Value) (r : Bool) → (d ≡ 0 → ⊥) → x ≡ v.List vs → items ≡ vs
    → IsTrue r ↔ (length items < 2 ^ 64) × All (IsPlain (d - 1)) items → IsTrue r ↔ IsPlain d x
judged-List zero x vs items r some is same h = absurd (some refl)
judged-List (suc d) x vs items r some is same h =
    let lower : suc d - 1 ≡ d = omega arith in
    let here : IsTrue r ↔ (length vs < 2 ^ 64) × All (IsPlain d) vs = rw (same, lower) at h in
    rw (is, IsPlain-List d vs) (λ good. ((here.0 good).0, recursion_from_All (IsPlain d) vs (here.0 good).1), λ plain. here.1 (plain.0, All-from_recursion (IsPlain d) vs plain.1))

pub judged-Map : (d : ℕ) (x : Value) (ps pairs : List (List ℕ × Value)) (r : Bool) → (d ≡ 0 → ⊥) → x ≡ v.Map ps → pairs ≡ ps
    → IsTrue r ↔ (length pairs < 2 ^ 64) × KeysRise (map (λ p. p.0) pairs) × All (λ p. IsText p.0 × IsPlain (d - 1) p.1) pairs → IsTrue r ↔ IsPlain d x
judged-Map zero x ps pairs r some is same h = absurd (some refl)
judged-Map (suc d) x ps pairs r some is same h =
    let lower : suc d - 1 ≡ d = omega arith in
    let P : List ℕ × Value → Type 0 = λ p. IsText p.0 × IsPlain d p.1 in
    let here : IsTrue r ↔ (length ps < 2 ^ 64) × KeysRise (map (λ p. p.0) ps) × All (λ p. IsText p.0 × IsPlain d p.1) ps = rw (same, lower) at h in
    rw (is, IsPlain-Map d ps) (λ good. ((here.0 good).0, (here.0 good).1, recursion_from_All P ps (here.0 good).2), λ plain. here.1 (plain.0, plain.1, All-from_recursion P ps plain.2))

pub judged-Link : (d : ℕ) (x : Value) (cid : CidParts) (r : Bool) → (d ≡ 0 → ⊥) → x ≡ v.Link cid → IsTrue r ↔ IsCid cid → IsTrue r ↔ IsPlain d x
judged-Link zero x cid r some is h = absurd (some refl)
judged-Link (suc d) x cid r some is h = rw (is, IsPlain-Link d cid) h

-- ---- items one by one

-- one more of which P holds
pub all_more : {X : Type 0} (P : X → Type 0) (xs : List X) (i : ℕ) (x : X) → i < length xs → x ≡ get_or xs i x → P x → All P (take i xs) → All P (take (i + 1) xs)
all_more P xs i x lt is here all = All-more P xs i x lt all (subst P is here)

-- what a test that failed says
pub unless : {P : Type 0} (r : Bool) → IsTrue r ↔ P → r ≡ false → P → ⊥
unless r h failed holds = false≢true (sym failed ∙ h.1 holds)

all_of : {X : Type 0} (P : X → Type 0) (xs : List X) (i : ℕ) → length xs ≤ i → All P (take i xs) → All P xs
all_of P xs i long all = rw (take_all i xs long) at all

-- all items were judged
pub list_judged : {X : Type 0} (P : X → Type 0) (xs : List X) (i : ℕ) (fits : Bool) → length xs ≤ i → All P (take i xs) → IsTrue fits ↔ (length xs < 2 ^ 64)
    → IsTrue fits ↔ (length xs < 2 ^ 64) × All P xs
list_judged P xs i fits long all h = (λ good. (h.0 good, all_of P xs i long all), λ both. h.1 both.0)

-- ---- keys

-- each of the first keys comes before the next
abbrev pub RiseBelow : ℕ → List (List ℕ) → Type 0
RiseBelow n keys = (k : ℕ) → suc k < n → key_cmp (get_or keys k []) (get_or keys (suc k) []) ≡ Less

rise_from : (keys : List (List ℕ)) → RiseBelow (length keys) keys → KeysRise keys
rise_from [] h = tt
rise_from (key ∷ []) h = tt
rise_from (key ∷ next ∷ keys) h = (h 0 (omega arith), rise_from (next ∷ keys) (λ k lt. h (suc k) (omega arith)))

rise_at : (keys : List (List ℕ)) → KeysRise keys → RiseBelow (length keys) keys
rise_at [] h k lt = absurd (omega arith)
rise_at (key ∷ []) h k lt = absurd (omega arith)
rise_at (key ∷ next ∷ keys) h zero lt = h.0
rise_at (key ∷ next ∷ keys) h (suc k) lt = rise_at (next ∷ keys) h.1 k (omega arith)

-- a pair, judged by its key and its item
pub pair_judged : (d : ℕ) (ps : List (List ℕ × Value)) (i : ℕ) (p : List ℕ × Value) (key : List ℕ) → i < length ps → p ≡ get_or ps i p → key ≡ p.0 → IsText key → IsPlain d p.1
    → All (λ q. IsText q.0 × IsPlain d q.1) (take i ps) → All (λ q. IsText q.0 × IsPlain d q.1) (take (i + 1) ps)
pair_judged d ps i p key lt is same text item all = all_more (λ q. IsText q.0 × IsPlain d q.1) ps i p lt is (rw same at text, item) all

-- all pairs were judged, and so are the keys together
pub map_judged : (P : List ℕ × Value → Type 0) (ps : List (List ℕ × Value)) (i : ℕ) (fits rise : Bool) → length ps ≤ i → All P (take i ps)
    → IsTrue fits ↔ (length ps < 2 ^ 64) → IsTrue fits → IsTrue rise ↔ KeysRise (map (λ p. p.0) ps)
    → IsTrue rise ↔ (length ps < 2 ^ 64) × KeysRise (map (λ p. p.0) ps) × All P ps
map_judged P ps i fits rise long all h fit rises = (λ good. (h.0 fit, rises.0 good, all_of P ps i long all), λ three. rises.1 three.1)

-- the key at a place
key_at : (ps : List (List ℕ × Value)) (i n : ℕ) (key : List ℕ) (d : List ℕ × Value) → n ≡ i → n < length ps → key ≡ (get_or ps i d).0 → get_or (keys_of ps) n [] ≡ key
key_at ps i n key d same lt is = get_or-map (λ (p : List ℕ × Value). p.0) ps n d [] lt ∙ ap (λ (m : ℕ). (get_or ps m d).0) same ∙ sym is

-- one key more comes behind the last
pub rise_more : (ps : List (List ℕ × Value)) (i : ℕ) (last next : List ℕ) (d e : List ℕ × Value) → 1 ≤ i → i < length ps → last ≡ (get_or ps (i - 1) d).0 → next ≡ (get_or ps i e).0
    → key_cmp last next ≡ Less → RiseBelow i (keys_of ps) → RiseBelow (i + 1) (keys_of ps)
rise_more ps i last next d e some lt is-last is-next less rise k below =
    elim (cases_lt (suc k) i) [
      | inl h ↦ rise k h
      | inr h ↦
          let left = key_at ps (i - 1) k last d (omega arith) (omega arith) is-last in
          let right = key_at ps i (suc k) next e (omega arith) (omega arith) is-next in
          ap (λ (key : List ℕ). key_cmp key (get_or (keys_of ps) (suc k) [])) left ∙ ap (key_cmp last) right ∙ less
    ]

-- one key more does not come behind the last
pub no_rise : (ps : List (List ℕ × Value)) (i : ℕ) (last next : List ℕ) (d e : List ℕ × Value) → 1 ≤ i → i < length ps → last ≡ (get_or ps (i - 1) d).0 → next ≡ (get_or ps i e).0
    → (key_cmp last next ≡ Less → ⊥) → KeysRise (keys_of ps) → ⊥
no_rise ps i last next d e some lt is-last is-next refuses rises =
    let len : length (keys_of ps) ≡ length ps = length-map ps (λ (p : List ℕ × Value). p.0) in
    let less = rise_at (keys_of ps) rises (i - 1) (omega arith) in
    let left = key_at ps (i - 1) (i - 1) last d (omega arith) (omega arith) is-last in
    let right = key_at ps i (suc (i - 1)) next e (omega arith) (omega arith) is-next in
    refuses (ap (λ (key : List ℕ). key_cmp key next) (sym left) ∙ ap (key_cmp (get_or (keys_of ps) (i - 1) [])) (sym right) ∙ less)

-- all keys were judged
pub rise_all : (ps : List (List ℕ × Value)) (i : ℕ) → length ps ≤ i → RiseBelow i (keys_of ps) → KeysRise (keys_of ps)
rise_all ps i long rise =
    let len : length (keys_of ps) ≡ length ps = length-map ps (λ (p : List ℕ × Value). p.0) in
    rise_from (keys_of ps) (λ k lt. rise k (omega arith))
