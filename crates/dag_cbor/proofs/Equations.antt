-- The equations of `spelled` and of `IsPlain`, one for each variant.
use Rattle.std.proofs.Common.{◌≡◌, ℕ, zero, suc, ◌+◌, ◌^◌, ◌<◌, Bool, cond, pos, negsuc, List, [], ◌∷◌, ◌++◌, length, map, refl, sym, ap, ◌∙◌}
use Rattle.std.proofs.lemmas.List.{length-map}
use Rattle.std.specs.List.{AllByRecursion}
use Rattle.fil_base.specs.CidParts.{CidParts, IsCid}
use Rattle.fil_base.specs.CidBytes.{cid_bytes}
use Rattle.dag_cbor.specs.declared.value.Value.{Value, Value-F, out-Value, roll-Value, roll-out-Value, fold-roll-Value}
use Rattle.dag_cbor.specs.declared.value.Value.TheVariants as v
use Rattle.dag_cbor.specs.declared.value.Value.TheOpen as layer
use Rattle.dag_cbor.specs.Spelling.{head, joined, spelled_pair, spelled_layer, spelled}
use Rattle.dag_cbor.specs.Plain.{KeysRise, IsText, IsPlain, IsPlainLayer}

pub spelled-Null : spelled v.Null ≡ head 7 22
unfolding spelled
spelled-Null = ap spelled (sym v.rolls-Null) ∙ fold-roll-Value (List ℕ) spelled_layer layer.Null

pub spelled-Bool : (b : Bool) → spelled (v.Bool b) ≡ head 7 (cond b 21 20)
unfolding spelled
spelled-Bool b = ap spelled (sym (v.rolls-Bool b)) ∙ fold-roll-Value (List ℕ) spelled_layer (layer.Bool b)

pub spelled-pos : (n : ℕ) → spelled (v.Int (pos n)) ≡ head 0 n
unfolding spelled
spelled-pos n = ap spelled (sym (v.rolls-Int (pos n))) ∙ fold-roll-Value (List ℕ) spelled_layer (layer.Int (pos n))

pub spelled-negsuc : (n : ℕ) → spelled (v.Int (negsuc n)) ≡ head 1 n
unfolding spelled
spelled-negsuc n = ap spelled (sym (v.rolls-Int (negsuc n))) ∙ fold-roll-Value (List ℕ) spelled_layer (layer.Int (negsuc n))

pub spelled-Blob : (bytes : List ℕ) → spelled (v.Blob bytes) ≡ head 2 (length bytes) ++ bytes
unfolding spelled
spelled-Blob bytes = ap spelled (sym (v.rolls-Blob bytes)) ∙ fold-roll-Value (List ℕ) spelled_layer (layer.Blob bytes)

pub spelled-Text : (bytes : List ℕ) → spelled (v.Text bytes) ≡ head 3 (length bytes) ++ bytes
unfolding spelled
spelled-Text bytes = ap spelled (sym (v.rolls-Text bytes)) ∙ fold-roll-Value (List ℕ) spelled_layer (layer.Text bytes)

pub spelled-List : (vs : List Value) → spelled (v.List vs) ≡ head 4 (length vs) ++ joined (map spelled vs)
unfolding spelled
spelled-List vs = ap spelled (sym (v.rolls-List vs)) ∙ fold-roll-Value (List ℕ) spelled_layer (layer.List vs) ∙ ap (λ (n : ℕ). head 4 n ++ joined (map spelled vs)) (length-map vs spelled)

-- a pair of a map, spelled
abbrev pub pair_bytes : List ℕ × Value → List ℕ
pair_bytes p = head 3 (length p.0) ++ (p.0 ++ spelled p.1)

abbrev bytes_of_pair : List ℕ × Value → List ℕ × List ℕ
bytes_of_pair p = (p.0, spelled p.1)

pairs_joined : (ps : List (List ℕ × Value)) → joined (map spelled_pair (map bytes_of_pair ps)) ≡ joined (map pair_bytes ps)
pairs_joined [] = refl
pairs_joined (p ∷ ps) = ap (λ (t : List ℕ). pair_bytes p ++ t) (pairs_joined ps)

pub spelled-Map : (ps : List (List ℕ × Value)) → spelled (v.Map ps) ≡ head 5 (length ps) ++ joined (map pair_bytes ps)
unfolding spelled
spelled-Map ps =
    ap spelled (sym (v.rolls-Map ps)) ∙ fold-roll-Value (List ℕ) spelled_layer (layer.Map ps)
    ∙ ap (λ (n : ℕ). head 5 n ++ joined (map spelled_pair (map bytes_of_pair ps))) (length-map ps bytes_of_pair)
    ∙ ap (λ (t : List ℕ). head 5 (length ps) ++ t) (pairs_joined ps)

pub spelled-Link : (cid : CidParts) → spelled (v.Link cid) ≡ head 6 42 ++ (head 2 (length (cid_bytes cid) + 1) ++ (0 ∷ cid_bytes cid))
unfolding spelled
spelled-Link cid = ap spelled (sym (v.rolls-Link cid)) ∙ fold-roll-Value (List ℕ) spelled_layer (layer.Link cid)

-- ---- what `IsPlain` says of each variant

pub IsPlain-Null : (d : ℕ) → IsPlain (suc d) v.Null ≡ Unit {0}
unfolding IsPlain
IsPlain-Null d = ap (IsPlainLayer (IsPlain d)) v.outs-Null

pub IsPlain-Bool : (d : ℕ) (b : Bool) → IsPlain (suc d) (v.Bool b) ≡ Unit {0}
unfolding IsPlain
IsPlain-Bool d b = ap (IsPlainLayer (IsPlain d)) (v.outs-Bool b)

pub IsPlain-pos : (d n : ℕ) → IsPlain (suc d) (v.Int (pos n)) ≡ (n < 2 ^ 64)
unfolding IsPlain
IsPlain-pos d n = ap (IsPlainLayer (IsPlain d)) (v.outs-Int (pos n))

pub IsPlain-negsuc : (d n : ℕ) → IsPlain (suc d) (v.Int (negsuc n)) ≡ (n < 2 ^ 64)
unfolding IsPlain
IsPlain-negsuc d n = ap (IsPlainLayer (IsPlain d)) (v.outs-Int (negsuc n))

pub IsPlain-Blob : (d : ℕ) (bytes : List ℕ) → IsPlain (suc d) (v.Blob bytes) ≡ (length bytes < 2 ^ 64)
unfolding IsPlain
IsPlain-Blob d bytes = ap (IsPlainLayer (IsPlain d)) (v.outs-Blob bytes)

pub IsPlain-Text : (d : ℕ) (bytes : List ℕ) → IsPlain (suc d) (v.Text bytes) ≡ IsText bytes
unfolding IsPlain
IsPlain-Text d bytes = ap (IsPlainLayer (IsPlain d)) (v.outs-Text bytes)

pub IsPlain-List : (d : ℕ) (vs : List Value) → IsPlain (suc d) (v.List vs) ≡ ((length vs < 2 ^ 64) × AllByRecursion (IsPlain d) vs)
unfolding IsPlain
IsPlain-List d vs = ap (IsPlainLayer (IsPlain d)) (v.outs-List vs)

-- a pair with a text for its key, and an item of at most this depth
abbrev pub IsPlainPair : ℕ → List ℕ × Value → Type 0
IsPlainPair d p = IsText p.0 × IsPlain d p.1

-- the keys of pairs
abbrev pub keys_of : List (List ℕ × Value) → List (List ℕ)
keys_of ps = map (λ p. p.0) ps

pub IsPlain-Map : (d : ℕ) (ps : List (List ℕ × Value)) → IsPlain (suc d) (v.Map ps) ≡ ((length ps < 2 ^ 64) × KeysRise (keys_of ps) × AllByRecursion (IsPlainPair d) ps)
unfolding IsPlain
IsPlain-Map d ps = ap (IsPlainLayer (IsPlain d)) (v.outs-Map ps)

pub IsPlain-Link : (d : ℕ) (cid : CidParts) → IsPlain (suc d) (v.Link cid) ≡ IsCid cid
unfolding IsPlain
IsPlain-Link d cid = ap (IsPlainLayer (IsPlain d)) (v.outs-Link cid)

-- no value has depth 0
pub IsPlain-zero : (x : Value) → IsPlain zero x → ⊥
unfolding IsPlain
IsPlain-zero x plain = plain

-- what a plain value is
pub data PlainCases (d : ℕ) (x : Value) : Type 0 where
  null : v.Null ≡ x → PlainCases d x
  bool : (b : Bool) → v.Bool b ≡ x → PlainCases d x
  natural : (n : ℕ) → n < 2 ^ 64 → v.Int (pos n) ≡ x → PlainCases d x
  negative : (n : ℕ) → n < 2 ^ 64 → v.Int (negsuc n) ≡ x → PlainCases d x
  blob : (bytes : List ℕ) → length bytes < 2 ^ 64 → v.Blob bytes ≡ x → PlainCases d x
  text : (bytes : List ℕ) → IsText bytes → v.Text bytes ≡ x → PlainCases d x
  list : (vs : List Value) → length vs < 2 ^ 64 → AllByRecursion (IsPlain d) vs → v.List vs ≡ x → PlainCases d x
  map_of : (ps : List (List ℕ × Value)) → length ps < 2 ^ 64 → KeysRise (keys_of ps) → AllByRecursion (IsPlainPair d) ps → v.Map ps ≡ x → PlainCases d x
  link : (cid : CidParts) → IsCid cid → v.Link cid ≡ x → PlainCases d x

cases_of_layer : (d : ℕ) (l : Value-F Value) (x : Value) → roll-Value l ≡ x → IsPlainLayer (IsPlain d) l → PlainCases d x
cases_of_layer d layer.Null x is h = null (sym v.rolls-Null ∙ is)
cases_of_layer d (layer.Bool b) x is h = bool b (sym (v.rolls-Bool b) ∙ is)
cases_of_layer d (layer.Int (pos n)) x is h = natural n h (sym (v.rolls-Int (pos n)) ∙ is)
cases_of_layer d (layer.Int (negsuc n)) x is h = negative n h (sym (v.rolls-Int (negsuc n)) ∙ is)
cases_of_layer d (layer.Blob bytes) x is h = blob bytes h (sym (v.rolls-Blob bytes) ∙ is)
cases_of_layer d (layer.Text bytes) x is h = text bytes h (sym (v.rolls-Text bytes) ∙ is)
cases_of_layer d (layer.List vs) x is h = list vs h.0 h.1 (sym (v.rolls-List vs) ∙ is)
cases_of_layer d (layer.Map ps) x is h = map_of ps h.0 h.1 h.2 (sym (v.rolls-Map ps) ∙ is)
cases_of_layer d (layer.Link cid) x is h = link cid h (sym (v.rolls-Link cid) ∙ is)

pub cases_of_plain : (d : ℕ) (x : Value) → IsPlain (suc d) x → PlainCases d x
unfolding IsPlain
cases_of_plain d x plain = cases_of_layer d (out-Value x) x (roll-out-Value x) plain
