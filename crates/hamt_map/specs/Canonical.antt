-- What shows that a node that was read is the canonical one, with no need to build it.
use Rattle.std.specs.Prelude.{◌≡◌, ℕ, ◌+◌, ◌-◌, ◌^◌, ◌&&◌, ◌||◌, ◌==◌, Bool, false, List, [], ◌∷◌, ◌++◌, length, nat_eq, nat_le, nat_lt, if◌then◌else◌}
use Rattle.std.specs.Cmp.Lexicographic.{pointwise}
use Rattle.std.specs.FinMap.{entries, from_entries}
use Rattle.std.specs.FinMap.Entries.{is_sorted}
use Rattle.std.specs.Int.Digits.{digits_of}
use Rattle.std.specs.List.{list_all}
use Rattle.std.specs.declared.option.Option.{Option}
use Rattle.std.specs.declared.option.Option.TheVariants.{None, Some}
use Rattle.std.specs.declared.result.Result.{Result}
use Rattle.std.specs.declared.result.Result.TheVariants.{Ok}
use Rattle.fil_base.specs.CidParts.{CidParts}
use Rattle.dag_cbor.specs.declared.value.Value.{Value}
use Rattle.dag_cbor.specs.declared.value.Value.TheVariants as v
use Rattle.hamt_map.specs.Holds.{FitNodes, spellings}
use Rattle.hamt_map.specs.Node.{bucket}
use Rattle.hamt_map.specs.Pairs.{Map, Pairs, key_cmp, place_on}
use Rattle.hamt_map.specs.Walk.{Pointer, Bucket, Child}
use Rattle.tree_blocks.specs.declared.fault.TreeFault.{TreeFault}

-- a node of a bit field and pointers
abbrev pub node_of : List ℕ → List Value → Value
node_of bits pointers = v.List (v.Blob bits ∷ (v.List pointers ∷ []))

-- the value that is read as a pointer
abbrev pub pointer_value : Pointer → Value
pointer_value (Bucket pairs) = bucket pairs
pointer_value (Child cid) = v.Link cid

-- the pairs of a list, of which the first at a key counts
abbrev pub map_of : Pairs → Map
map_of pairs = from_entries pairs

-- the place that all keys have on a level, if there are keys and they have one
abbrev pub common_place : {X : Type 0} → ℕ → List (List ℕ × X) → Option ℕ
common_place level [] = None
common_place level (p ∷ pairs) =
    if list_all (λ q. place_on level q.0 == place_on level p.0) (p ∷ pairs) then Some (place_on level p.0) else None

-- that of a bucket, if it has three pairs at most or is on the last level, and its keys rise
abbrev pub bucket_place : {X : Type 0} → ℕ → List (List ℕ × X) → Option ℕ
bucket_place below pairs =
    if (below == 0 || nat_le (length pairs) 3) && is_sorted key_cmp pairs then common_place (51 - below) pairs else None

-- that of the pairs under a child, if there are more than three
abbrev pub child_place : {X : Type 0} → ℕ → List (List ℕ × X) → Option ℕ
child_place below pairs = if nat_lt 3 (length pairs) then common_place (51 - below) pairs else None

-- the bits of places with one more, which is behind them all
abbrev pub with_place : Option ℕ → Option ℕ → Option ℕ
with_place None place = None
with_place (Some bits) None = None
with_place (Some bits) (Some place) = if nat_lt bits (2 ^ place) then Some (bits + 2 ^ place) else None

-- the bytes are those of places, big-endian and without leading zeros
abbrev pub is_field : Option ℕ → List ℕ → Bool
is_field None bits = false
is_field (Some places) bits = pointwise nat_eq (digits_of 256 places) bits

-- a CID and a bit field are those of a canonical node
abbrev pub has_canonical_form : Option ℕ → List ℕ → CidParts → Bool
has_canonical_form places bits cid = (cid.codec == 0x71 && cid.hash == 0xb220) && is_field places bits

-- pairs of a map, which a walk gave, stand behind those that were there, each key once
pub record ArePut (walked : Result Map TreeFault) (old new : List (List ℕ × List ℕ)) : Type 0 where
  pub pairs : Pairs
  pub walk : walked ≡ Ok (map_of pairs)
  pub put : new ≡ old ++ spellings pairs
  pub fit : FitNodes pairs
  pub once : length pairs ≡ length (entries (map_of pairs))
