-- How a value is spelled (RFC 8949, section 3; the DAG-CBOR specification, "Strictness").
use Rattle.std.specs.Prelude.{ℕ, ◌+◌, ◌*◌, ◌^◌, List, [], ◌∷◌, ◌++◌, length, map, pos, negsuc, nat_lt, if◌then◌else◌}
use Rattle.std.specs.Int.{w16, w32, w64, to_be_bytes}
use Rattle.fil_base.specs.CidBytes.{cid_bytes}
use Rattle.dag_cbor.specs.declared.value.Value.{Value, Value-F, fold-Value}
use Rattle.dag_cbor.specs.declared.value.Value.TheOpen as layer

-- the head of an item: its major type in the three high bits, and its number in as few bytes as hold it
unfoldable pub head : ℕ → ℕ → List ℕ
head major n =
    if nat_lt n 24 then (32 * major + n) ∷ []
    else (if nat_lt n (2 ^ 8) then (32 * major + 24) ∷ (n ∷ [])
    else (if nat_lt n (2 ^ 16) then (32 * major + 25) ∷ to_be_bytes w16 n
    else (if nat_lt n (2 ^ 32) then (32 * major + 26) ∷ to_be_bytes w32 n
    else (32 * major + 27) ∷ to_be_bytes w64 n)))

-- spellings one after another
abbrev pub joined : List (List ℕ) → List ℕ
joined [] = []
joined (t ∷ ts) = t ++ joined ts

-- a key, and the spelling of its item
abbrev pub spelled_pair : List ℕ × List ℕ → List ℕ
spelled_pair (key, item) = head 3 (length key) ++ (key ++ item)

-- one item, given the spellings of the items in it: majors 0 and 1 are the integers n and -1 - n, 2 a byte
-- string and 3 a text behind its length, 4 a list behind its count, 5 a map behind the count of its pairs, 6 the
-- tag 42 over the byte string of 00 and a CID, 7 the simple values false, true and null
abbrev pub spelled_layer : Value-F (List ℕ) → List ℕ
spelled_layer layer.Null = head 7 22
spelled_layer (layer.Bool b) = head 7 (if b then 21 else 20)
spelled_layer (layer.Int (pos n)) = head 0 n
spelled_layer (layer.Int (negsuc n)) = head 1 n
spelled_layer (layer.Blob bytes) = head 2 (length bytes) ++ bytes
spelled_layer (layer.Text bytes) = head 3 (length bytes) ++ bytes
spelled_layer (layer.List items) = head 4 (length items) ++ joined items
spelled_layer (layer.Map pairs) = head 5 (length pairs) ++ joined (map spelled_pair pairs)
spelled_layer (layer.Link cid) = head 6 42 ++ (head 2 (length (cid_bytes cid) + 1) ++ (0 ∷ cid_bytes cid))

-- the one spelling of a value
unfoldable pub spelled : Value → List ℕ
spelled = fold-Value (List ℕ) spelled_layer
