-- What is written, in the words of the value that it spells.
use Rattle.std.proofs.Common.{◌≡◌, ℕ, zero, suc, ◌-◌, ◌<◌, ℤ, pos, negsuc, List, [], ◌∷◌, ◌++◌, length, map, Result, IfOk, All, refl, sym, ap, ◌∙◌, arith}
use Rattle.std.proofs.lemmas.List.Elements.{All-from_recursion, All-weaker}
use Rattle.std.proofs.lemmas.Result.{IfOk-weaker}
use Rattle.std.specs.List.{flat_map}
use Rattle.dag_cbor.specs.declared.value.Value.{Value}
use Rattle.dag_cbor.specs.declared.value.Value.TheVariants as v
use Rattle.dag_cbor.specs.Spelling.{head, joined, spelled_pair, spelled, spelled_layer}
use Rattle.dag_cbor.specs.declared.value.Value.TheOpen as layer
use Rattle.dag_cbor.specs.Plain.{IsPlain, IsPlainLayer, IsText}
use Rattle.dag_cbor.proofs.Equations.{pair_bytes, spelled-pos, spelled-negsuc, spelled-Blob, spelled-Text, spelled-List, spelled-Map, IsPlain-zero, IsPlain-pos, IsPlain-negsuc, IsPlain-List, IsPlain-Map}

-- the spelling of an integer
pub spelled-Int : (i : ℤ) → spelled (v.Int i) ≡ spelled_layer (layer.Int i)
spelled-Int (pos n) = spelled-pos n
spelled-Int (negsuc n) = spelled-negsuc n

-- an integer is plain at each depth, or at none
pub IsPlain-Int : (d e : ℕ) (i : ℤ) → IsPlain (suc d) (v.Int i) ≡ IsPlainLayer (IsPlain e) (layer.Int i)
IsPlain-Int d e (pos n) = IsPlain-pos d n
IsPlain-Int d e (negsuc n) = IsPlain-negsuc d n

-- what a call put behind a list, said in other words
pub put_as : {T E A : Type 0} (r : Result T E) (new old text whole : List A) → text ≡ whole → IfOk r (λ _. new ≡ old ++ text) → IfOk r (λ _. new ≡ old ++ whole)
put_as r new old text whole same put = IfOk-weaker r (λ _. new ≡ old ++ text) (λ _. new ≡ old ++ whole) (λ _ is. is ∙ ap (λ t. old ++ t) same) put

-- spellings one after another, written one by one
joined_map : {X : Type 0} (f : X → List ℕ) (xs : List X) → joined (map f xs) ≡ flat_map f xs
joined_map f [] = refl
joined_map f (x ∷ xs) = ap (λ t. f x ++ t) (joined_map f xs)

-- what is written of a byte string
pub blob_text : (x : Value) (slice bytes : List ℕ) → slice ≡ bytes → x ≡ v.Blob bytes → head 2 (length slice) ++ slice ≡ spelled x
blob_text x slice bytes same is = rw (same, is) (sym (spelled-Blob bytes))

-- what is written of a text
pub text_text : (x : Value) (slice bytes : List ℕ) → slice ≡ bytes → x ≡ v.Text bytes → head 3 (length slice) ++ slice ≡ spelled x
text_text x slice bytes same is = rw (same, is) (sym (spelled-Text bytes))

-- what is written of a list
pub list_text : (x : Value) (items vs : List Value) → items ≡ vs → x ≡ v.List vs → head 4 (length items) ++ flat_map spelled items ≡ spelled x
list_text x items vs same is = rw (same, is) (ap (λ t. head 4 (length vs) ++ t) (sym (joined_map spelled vs)) ∙ sym (spelled-List vs))

-- what is written of a map
pub map_text : (x : Value) (pairs ps : List (List ℕ × Value)) → pairs ≡ ps → x ≡ v.Map ps
    → head 5 (length pairs) ++ flat_map (λ p. spelled_pair (p.0, spelled p.1)) pairs ≡ spelled x
map_text x pairs ps same is = rw (same, is) (ap (λ t. head 5 (length ps) ++ t) (sym (joined_map pair_bytes ps)) ∙ sym (spelled-Map ps))

-- a value that has a spelling has a depth
pub plain_deep : (d : ℕ) (x : Value) → IsPlain d x → 0 < d
plain_deep zero x plain = absurd (IsPlain-zero x plain)
plain_deep (suc d) x plain = omega arith

-- the integer of a value that has a spelling
pub plain_integer : (d : ℕ) (x : Value) (i : ℤ) → x ≡ v.Int i → IsPlain d x → IsPlainLayer (IsPlain 0) (layer.Int i)
plain_integer zero x i is plain = absurd (IsPlain-zero x plain)
plain_integer (suc d) x i is plain = rw (is, IsPlain-Int d 0 i) at plain

-- the items of a list that has a spelling
pub plain_items : (d : ℕ) (x : Value) (items vs : List Value) → items ≡ vs → x ≡ v.List vs → IsPlain d x → All (IsPlain (d - 1)) items
plain_items zero x items vs same is plain = absurd (IsPlain-zero x plain)
plain_items (suc d) x items vs same is plain =
    let lower : d ≡ suc d - 1 = omega arith in
    let all = (rw (is, IsPlain-List d vs) at plain).1 in
    rw (same, ← lower) (All-from_recursion (IsPlain d) vs all)

-- the items of a map that has a spelling
pub plain_pairs : (d : ℕ) (x : Value) (pairs ps : List (List ℕ × Value)) → pairs ≡ ps → x ≡ v.Map ps → IsPlain d x → All (λ p. IsPlain (d - 1) p.1) pairs
plain_pairs zero x pairs ps same is plain = absurd (IsPlain-zero x plain)
plain_pairs (suc d) x pairs ps same is plain =
    let lower : d ≡ suc d - 1 = omega arith in
    let all = (rw (is, IsPlain-Map d ps) at plain).2 in
    rw (same, ← lower) (All-weaker (λ p. IsText p.0 × IsPlain d p.1) (λ p. IsPlain d p.1) (λ p h. h.1) ps (All-from_recursion (λ p. IsText p.0 × IsPlain d p.1) ps all))
