-- A plain value is plain to the depth that it is within.
use Rattle.std.proofs.Common.{◌≡◌, ℕ, zero, suc, List, [], ◌∷◌, Bool, true, false, ◌&&◌, pos, negsuc, IsTrue, ◌↔◌, refl, sym, ap, ◌∙◌, All}
use Rattle.std.proofs.lemmas.Bool.{false≢true}
use Rattle.std.proofs.lemmas.List.Elements.{recursion_from_All}
use Rattle.std.specs.List.{AllByRecursion, list_all}
use Rattle.dag_cbor.specs.declared.value.Value.{Value, Value-F, out-Value}
use Rattle.dag_cbor.specs.declared.value.Value.TheOpen as layer
use Rattle.dag_cbor.specs.Plain.{IsPlain, IsPlainLayer, IsText}
use Rattle.amt_map.specs.Depth.{all_items, is_within}

pub both : (a b : Bool) → a ≡ true → b ≡ true → (a && b) ≡ true
both true b ha hb = hb
both false b ha hb = ha

pub first : (a b : Bool) → (a && b) ≡ true → a ≡ true
first true b h = refl
first false b h = h

pub second : (a b : Bool) → (a && b) ≡ true → b ≡ true
second true b h = h
second false b h = absurd (false≢true h)

-- ---- a test that follows from a property

module _ {X : Type 0} (P : X → Type 0) (test : X → Bool) (follows : (x : X) → P x → test x ≡ true) where
  tests_follow : (xs : List X) → AllByRecursion P xs → list_all test xs ≡ true
  tests_follow [] all = refl
  tests_follow (x ∷ xs) all = both (test x) (list_all test xs) (follows x all.0) (tests_follow xs all.1)

within_layer : (d : ℕ) (l : Value-F Value) → ((x : Value) → IsPlain d x → is_within d x ≡ true) → IsPlainLayer (IsPlain d) l → all_items (is_within d) l ≡ true
within_layer d layer.Null follows h = refl
within_layer d (layer.Bool b) follows h = refl
within_layer d (layer.Int n) follows h = refl
within_layer d (layer.Blob bytes) follows h = refl
within_layer d (layer.Text bytes) follows h = refl
within_layer d (layer.List items) follows h = tests_follow (IsPlain d) (is_within d) follows items h.1
within_layer d (layer.Map pairs) follows h = tests_follow (λ p. IsText p.0 × IsPlain d p.1) (λ p. is_within d p.1) (λ p both. follows p.1 both.1) pairs h.2
within_layer d (layer.Link cid) follows h = refl

pub plain_is_within : (d : ℕ) (x : Value) → IsPlain d x → is_within d x ≡ true
unfolding IsPlain is_within
plain_is_within zero x h = absurd h
plain_is_within (suc d) x h = within_layer d (out-Value x) (plain_is_within d) h

-- ---- a property that follows from a test and another property

module _ {X : Type 0} (P Q : X → Type 0) (test : X → Bool) (follows : (x : X) → P x → test x ≡ true → Q x) where
  all_follow : (xs : List X) → AllByRecursion P xs → list_all test xs ≡ true → AllByRecursion Q xs
  all_follow [] all passed = tt
  all_follow (x ∷ xs) all passed =
      (follows x all.0 (first (test x) (list_all test xs) passed), all_follow xs all.1 (second (test x) (list_all test xs) passed))

plain_layer : (n d : ℕ) (l : Value-F Value) → ((x : Value) → IsPlain n x → is_within d x ≡ true → IsPlain d x) → IsPlainLayer (IsPlain n) l → all_items (is_within d) l ≡ true → IsPlainLayer (IsPlain d) l
plain_layer n d layer.Null follows h w = h
plain_layer n d (layer.Bool b) follows h w = h
plain_layer n d (layer.Int (pos i)) follows h w = h
plain_layer n d (layer.Int (negsuc i)) follows h w = h
plain_layer n d (layer.Blob bytes) follows h w = h
plain_layer n d (layer.Text bytes) follows h w = h
plain_layer n d (layer.List items) follows h w = (h.0, all_follow (IsPlain n) (IsPlain d) (is_within d) follows items h.1 w)
plain_layer n d (layer.Map pairs) follows h w =
    (h.0, h.1, all_follow (λ p. IsText p.0 × IsPlain n p.1) (λ p. IsText p.0 × IsPlain d p.1) (λ p. is_within d p.1) (λ p plain within. (plain.0, follows p.1 plain.1 within)) pairs h.2 w)
plain_layer n d (layer.Link cid) follows h w = h

pub within_is_plain : (n d : ℕ) (x : Value) → IsPlain n x → is_within d x ≡ true → IsPlain d x
unfolding IsPlain is_within
within_is_plain zero d x h w = absurd h
within_is_plain (suc n) zero x h w = absurd (false≢true w)
within_is_plain (suc n) (suc d) x h w = plain_layer n d (out-Value x) (within_is_plain n d) h w

not_true : (b : Bool) → (b ≡ true → ⊥) → b ≡ false
not_true true never = absurd (never refl)
not_true false never = refl

-- a plain value that is not plain to a depth is not within it
pub not_within : (n d : ℕ) (x : Value) → IsPlain n x → (IsPlain d x → ⊥) → is_within d x ≡ false
not_within n d x h deeper = not_true (is_within d x) (λ w. deeper (within_is_plain n d x h w))

pub unless : {P : Type 0} (r : Bool) → IsTrue r ↔ P → r ≡ false → P → ⊥
unless r decides is p = false≢true (sym is ∙ decides.1 p)

-- all are within a depth to which they are plain
pub all_within : (d : ℕ) (xs : List Value) → All (IsPlain d) xs → list_all (is_within d) xs ≡ true
all_within d xs all = tests_follow (IsPlain d) (is_within d) (plain_is_within d) xs (recursion_from_All (IsPlain d) xs all)
