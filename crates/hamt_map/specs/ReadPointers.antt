-- What a node that was read stands for.
use Rattle.std.specs.Prelude.{◌≡◌, ℕ, List, [], ◌++◌, MatchOption, length, map}
use Rattle.std.specs.List.{AllByRecursion, AllZip}
use Rattle.std.specs.declared.option.Option.{Option}
use Rattle.std.specs.declared.option.Option.TheVariants.{None, Some}
use Rattle.dag_cbor.specs.Plain.{IsPlain}
use Rattle.dag_cbor.specs.Spelling.{joined, spelled}
use Rattle.dag_cbor.specs.declared.value.Value.{Value, Value-F}
use Rattle.dag_cbor.specs.declared.value.Value.TheOpen as layer
use Rattle.fil_base.specs.CidParts.{CidParts}
use Rattle.hamt_map.specs.Canonical.{node_of, pointer_value}
use Rattle.hamt_map.specs.Holds.{FitNodes, spellings}
use Rattle.hamt_map.specs.Pairs.{Pairs}
use Rattle.hamt_map.specs.Walk.{Pointer, Bucket, Child}
use Rattle.hamt_map.specs.declared.node_form.ReadNode.{ReadNode}
use Rattle.hamt_map.specs.declared.node_form.ReadPointer.{ReadPointer}
use Rattle.hamt_map.specs.declared.node_form.ReadPointer.TheVariants as was_read

-- what was found stands for what there is
abbrev pub IsFound : {X Y : Type 0} → (X → Y → Type 0) → Option X → Option Y → Type 0
IsFound {X} {Y} StandsFor found there =
    MatchOption found (there ≡ None) (λ x. (y : Y) × (there ≡ Some y) × StandsFor x y)

-- a value of at most this depth is spelled at the front, and then these bytes
pub record IsAt (depth : ℕ) (value : Value) (bytes rest : List ℕ) : Type 0 where
  pub plain : IsPlain depth value
  pub parts : bytes ≡ spelled value ++ rest

-- so are values, one after another
pub record AreAt (depth : ℕ) (values : List Value) (bytes rest : List ℕ) : Type 0 where
  pub plain : AllByRecursion (IsPlain depth) values
  pub parts : bytes ≡ joined (map spelled values) ++ rest

-- the CID of a link
abbrev pub link_in : Value-F Value → Option CidParts
link_in layer.Null = None
link_in (layer.Bool b) = None
link_in (layer.Int n) = None
link_in (layer.Blob bytes) = None
link_in (layer.Text bytes) = None
link_in (layer.List items) = None
link_in (layer.Map pairs) = None
link_in (layer.Link cid) = Some cid

-- keys with spellings are those of pairs that fit into a node
pub record AreSpelled (leaves : List (List ℕ × List ℕ)) (pairs : Pairs) : Type 0 where
  pub same : leaves ≡ spellings pairs
  pub fit : FitNodes pairs

-- a bucket was read as its pairs, and a link as the CID of a node below
abbrev pub IsPointer : ReadPointer → Pointer → Type 0
IsPointer (was_read.Bucket leaves) (Bucket pairs) = AreSpelled leaves pairs
IsPointer (was_read.Bucket leaves) (Child cid) = ⊥
IsPointer (was_read.Child cid) (Bucket pairs) = ⊥
IsPointer (was_read.Child cid) (Child other) = cid ≡ other

-- a pair was read as a leaf, with the bytes behind it
pub record IsLeafAt (rest : List ℕ) (leaf : List ℕ × List ℕ) (behind : List ℕ) (pair : List ℕ × Value) : Type 0 where
  pub same : leaf ≡ (pair.0, spelled pair.1)
  pub plain : IsPlain 124 pair.1
  pub end : behind ≡ rest

-- a pointer was read, with the bytes behind it
pub record IsPointerAt (rest : List ℕ) (read : ReadPointer) (behind : List ℕ) (pointer : Pointer) : Type 0 where
  pub stands : IsPointer read pointer
  pub end : behind ≡ rest

-- a bit field, the count of a node's pointers and their bytes are those of a value
pub record AreParts (value : Value) (bits : List ℕ) (count : ℕ) (bytes : List ℕ) (values : List Value) : Type 0 where
  pub whole : value ≡ node_of bits values
  pub long : length values ≡ count
  pub at : AreAt 126 values bytes []

-- pointers were read, and they and the bit field make the value
pub record IsNode (value : Value) (node : ReadNode) (pointers : List Pointer) : Type 0 where
  pub zip : AllZip IsPointer node.pointers pointers
  pub whole : value ≡ node_of node.bits.now (map pointer_value pointers)

-- the same of bytes that spell the value
pub record IsNodeIn (bytes : List ℕ) (node : ReadNode) (pointers : List Pointer) : Type 0 where
  pub zip : AllZip IsPointer node.pointers pointers
  pub whole : bytes ≡ spelled (node_of node.bits.now (map pointer_value pointers))
