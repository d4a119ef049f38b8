-- Which values have a spelling.
use Rattle.std.specs.Prelude.{◌≡◌, ℕ, ◌^◌, ◌<◌, List, [], ◌∷◌, length, map, zero, suc, pos, negsuc}
use Rattle.std.specs.List.{AllByRecursion}
use Rattle.std.specs.Ordering.{nat_cmp, ordering_then}
use Rattle.std.specs.Cmp.Lexicographic.{slice_cmp}
use Rattle.std.specs.declared.cmp.Ordering.{Ordering}
use Rattle.std.specs.declared.cmp.Ordering.TheVariants.{Less}
use Rattle.std.specs.Str.{IsUtf8}
use Rattle.fil_base.specs.CidParts.{IsCid}
use Rattle.dag_cbor.specs.declared.value.Value.{Value, Value-F, out-Value}
use Rattle.dag_cbor.specs.declared.value.Value.TheOpen as layer

-- the order of keys: shorter ones first, and those of one length by their bytes
abbrev pub key_cmp : List ℕ → List ℕ → Ordering
key_cmp a b = ordering_then (nat_cmp (length a) (length b)) (slice_cmp nat_cmp a b)

-- each key comes before the next
abbrev pub KeysRise : List (List ℕ) → Type 0
KeysRise [] = Unit {0}
KeysRise (key ∷ []) = Unit {0}
KeysRise (key ∷ next ∷ keys) = (key_cmp key next ≡ Less) × KeysRise (next ∷ keys)

-- a text, with a length below 2^64
abbrev pub IsText : List ℕ → Type 0
IsText bytes = (length bytes < 2 ^ 64) × IsUtf8 bytes

-- integers from -2^64 to 2^64 - 1, lengths below 2^64, texts in UTF-8, maps by rising keys, and items of which P
-- holds
abbrev pub IsPlainLayer : (Value → Type 0) → Value-F Value → Type 0
IsPlainLayer P layer.Null = Unit {0}
IsPlainLayer P (layer.Bool b) = Unit {0}
IsPlainLayer P (layer.Int (pos n)) = n < 2 ^ 64
IsPlainLayer P (layer.Int (negsuc n)) = n < 2 ^ 64
IsPlainLayer P (layer.Blob bytes) = length bytes < 2 ^ 64
IsPlainLayer P (layer.Text bytes) = IsText bytes
IsPlainLayer P (layer.List items) = (length items < 2 ^ 64) × AllByRecursion P items
IsPlainLayer P (layer.Map pairs) =
    (length pairs < 2 ^ 64) × KeysRise (map (λ p. p.0) pairs) × AllByRecursion (λ p. IsText p.0 × P p.1) pairs
IsPlainLayer P (layer.Link cid) = IsCid cid

-- a value that has a spelling, and whose depth is at most this
unfoldable pub IsPlain : ℕ → Value → Type 0
IsPlain zero value = ⊥
IsPlain (suc depth) value = IsPlainLayer (IsPlain depth) (out-Value value)
