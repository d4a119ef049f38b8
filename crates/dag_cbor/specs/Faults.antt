-- Which fault bytes have, apart from how they are read. Each kind of fault has its place and its moment, the number
-- of bytes that must be there to judge it.
use Rattle.std.specs.Prelude.{◌≡◌, ◌⊎◌, ℕ, ◌+◌, ◌-◌, ◌^◌, ◌<◌, ◌≤◌, suc, true, ◌==◌, if◌then◌else◌, List, [], ◌∷◌, ◌++◌, length, map, drop, Result, Ok, Err}
use Rattle.std.specs.List.{AllByRecursion}
use Rattle.std.specs.Str.{IsUtf8}
use Rattle.std.specs.declared.cmp.Ordering.{Ordering}
use Rattle.std.specs.declared.cmp.Ordering.TheVariants as orders
use Rattle.fil_base.specs.CidParts.{CidParts, IsCid}
use Rattle.fil_base.specs.CidBytes.{cid_bytes}
use Rattle.dag_cbor.specs.declared.value.Value.{Value}
use Rattle.dag_cbor.specs.declared.fault.CborFault.{CborFault}
use Rattle.dag_cbor.specs.declared.fault.CborKind.{CborKind}
use Rattle.dag_cbor.specs.declared.fault.CborKind.TheVariants as kinds
use Rattle.dag_cbor.specs.declared.fault.Flaw.{Flaw}
use Rattle.dag_cbor.specs.declared.head.RawHead.{RawHead}
use Rattle.dag_cbor.specs.declared.decoding.TheConstants.{MAX_DEPTH}
use Rattle.dag_cbor.specs.HeadRows.{shows}
use Rattle.dag_cbor.specs.Reading.{raw_head_at}
use Rattle.dag_cbor.specs.Spelling.{head, joined, spelled}
use Rattle.dag_cbor.specs.Plain.{KeysRise, IsText, IsPlain}
use Rattle.dag_cbor.specs.Keys.{last_key, order_after}

-- ---- where something stands in a value whose rest is not known

-- a pair of a map, spelled
abbrev pub pair_bytes : List ℕ × Value → List ℕ
pair_bytes p = head 3 (length p.0) ++ (p.0 ++ spelled p.1)

-- the beginning of a map of so many pairs, with these
abbrev pub map_bytes : ℕ → List (List ℕ × Value) → List ℕ
map_bytes total pairs = head 5 total ++ joined (map pair_bytes pairs)

-- the beginning of a list of so many items, with these
abbrev pub list_bytes : ℕ → List Value → List ℕ
list_bytes total items = head 4 total ++ joined (map spelled items)

-- a list before its next item, or a map before the item of its next key
pub data Level : Type 0 where
  in_list : ℕ → List Value → Level
  in_map : ℕ → List (List ℕ × Value) → List ℕ → Level

-- its bytes so far
abbrev pub level_bytes : Level → List ℕ
level_bytes (in_list total items) = list_bytes total items
level_bytes (in_map total pairs key) = map_bytes total pairs ++ (head 3 (length key) ++ key)

-- a list with items to come, which have at most this depth
abbrev pub IsOpenList : ℕ → ℕ → List Value → Type 0
IsOpenList room total items = (length items < total) × (total < 2 ^ 64) × AllByRecursion (IsPlain room) items

-- a map with pairs to come, whose items have at most this depth
abbrev pub IsOpenMap : ℕ → ℕ → List (List ℕ × Value) → Type 0
IsOpenMap room total pairs =
    (length pairs < total) × (total < 2 ^ 64) × KeysRise (map (λ p. p.0) pairs) × AllByRecursion (λ p. IsText p.0 × IsPlain room p.1) pairs

abbrev pub IsLevel : ℕ → Level → Type 0
IsLevel room (in_list total items) = IsOpenList room total items
IsLevel room (in_map total pairs key) = (0 < room) × IsOpenMap room total pairs × IsText key × (order_after (last_key pairs) key ≡ orders.Less)

-- levels inside one another, innermost first, with so much depth left for the next item
unfoldable pub IsOpen : ℕ → List Level → Type 0
IsOpen room [] = room ≡ MAX_DEPTH
IsOpen room (level ∷ levels) = IsLevel room level × IsOpen (suc room) levels

-- their bytes so far
unfoldable pub opened : List Level → List ℕ
opened [] = []
opened (level ∷ levels) = opened levels ++ level_bytes level

-- where a head stands: before an item, before a key, or behind the tag of a link
pub data Spot : Type 0 where
  item : List Level → Spot
  key : List Level → ℕ → List (List ℕ × Value) → Spot
  content : List Level → Spot

-- the bytes before it
abbrev pub before : Spot → List ℕ
before (item levels) = opened levels
before (key levels total pairs) = opened levels ++ map_bytes total pairs
before (content levels) = opened levels ++ head 6 42

-- a spot with so much depth left
abbrev pub IsSpot : ℕ → Spot → Type 0
IsSpot room (item levels) = IsOpen room levels
IsSpot room (key levels total pairs) = IsOpen (suc room) levels × IsOpenMap room total pairs
IsSpot room (content levels) = IsOpen (suc room) levels

-- ---- the rows

-- the spot of an item or a key, with so much depth left for it
abbrev pub IsItemSpot : ℕ → Spot → Type 0
IsItemSpot room (item levels) = IsOpen room levels
IsItemSpot room (key levels total pairs) = IsOpen (suc room) levels × IsOpenMap room total pairs
IsItemSpot room (content levels) = ⊥

-- a fault of a head by itself, at the head
pub record HeadRow (bytes : List ℕ) (kind : CborKind) (at : ℕ) : Type 0 where
  pub spot : Spot
  pub room : ℕ
  pub rest : List ℕ
  pub raw : RawHead
  pub after : List ℕ
  pub here : IsSpot room spot
  pub parts : bytes ≡ before spot ++ rest
  pub read : raw_head_at rest ≡ Ok (raw, after)
  pub shown : shows raw kind ≡ true
  pub place : at ≡ length (before spot)

-- a key that is no text, at its head
pub record KeyKindRow (bytes : List ℕ) (at : ℕ) : Type 0 where
  pub levels : List Level
  pub total : ℕ
  pub pairs : List (List ℕ × Value)
  pub room : ℕ
  pub rest : List ℕ
  pub raw : RawHead
  pub after : List ℕ
  pub here : IsSpot room (key levels total pairs)
  pub parts : bytes ≡ before (key levels total pairs) ++ rest
  pub read : raw_head_at rest ≡ Ok (raw, after)
  pub other : raw.major ≡ 3 → ⊥
  pub place : at ≡ length (before (key levels total pairs))

-- an item or a key for which no depth is left, at its head
pub record DepthRow (bytes : List ℕ) (at : ℕ) : Type 0 where
  pub spot : Spot
  pub rest : List ℕ
  pub raw : RawHead
  pub after : List ℕ
  pub here : IsItemSpot 0 spot
  pub parts : bytes ≡ before spot ++ rest
  pub read : raw_head_at rest ≡ Ok (raw, after)
  pub place : at ≡ length (before spot)

-- a head behind tag 42 that begins no byte string, at the tag
pub record ContentRow (bytes : List ℕ) (at : ℕ) : Type 0 where
  pub levels : List Level
  pub room : ℕ
  pub rest : List ℕ
  pub raw : RawHead
  pub after : List ℕ
  pub here : IsOpen (suc room) levels
  pub parts : bytes ≡ opened levels ++ (head 6 42 ++ rest)
  pub read : raw_head_at rest ≡ Ok (raw, after)
  pub other : raw.major ≡ 2 → ⊥
  pub place : at ≡ length (opened levels)

-- tag 42 over a byte string that is not 00 and a CID, at the tag
pub record LinkRow (bytes : List ℕ) (at : ℕ) : Type 0 where
  pub levels : List Level
  pub room : ℕ
  pub blob : List ℕ
  pub rest : List ℕ
  pub here : IsOpen (suc room) levels
  pub fits : length blob < 2 ^ 64
  pub parts : bytes ≡ opened levels ++ (head 6 42 ++ (head 2 (length blob) ++ (blob ++ rest)))
  pub other : (cid : CidParts) → IsCid cid → blob ≡ 0 ∷ cid_bytes cid → ⊥
  pub place : at ≡ length (opened levels)

-- a text that is not UTF-8, at its head
pub record TextRow (bytes : List ℕ) (at : ℕ) : Type 0 where
  pub spot : Spot
  pub room : ℕ
  pub text : List ℕ
  pub rest : List ℕ
  pub here : IsItemSpot (suc room) spot
  pub fits : length text < 2 ^ 64
  pub parts : bytes ≡ before spot ++ (head 3 (length text) ++ (text ++ rest))
  pub other : IsUtf8 text → ⊥
  pub place : at ≡ length (before spot)

-- a key that stands so to the one before it, at its head
pub record KeyRow (bytes : List ℕ) (order : Ordering) (at : ℕ) : Type 0 where
  pub levels : List Level
  pub total : ℕ
  pub pairs : List (List ℕ × Value)
  pub room : ℕ
  pub text : List ℕ
  pub rest : List ℕ
  pub here : IsSpot (suc room) (key levels total pairs)
  pub is_text : IsText text
  pub parts : bytes ≡ before (key levels total pairs) ++ (head 3 (length text) ++ (text ++ rest))
  pub stands : order_after (last_key pairs) text ≡ order
  pub place : at ≡ length (before (key levels total pairs))

-- bytes after the item, at the first of them
pub record TrailingRow (bytes : List ℕ) (at : ℕ) : Type 0 where
  pub value : Value
  pub next : ℕ
  pub rest : List ℕ
  pub plain : IsPlain MAX_DEPTH value
  pub parts : bytes ≡ spelled value ++ (next ∷ rest)
  pub place : at ≡ length (spelled value)

-- that bytes have a fault of this kind at this place
abbrev pub Row : List ℕ → CborKind → ℕ → Type 0
Row bytes kinds.LinkForm at = ContentRow bytes at ⊎ LinkRow bytes at
Row bytes kinds.Utf8 at = TextRow bytes at
Row bytes kinds.KeyKind at = KeyKindRow bytes at
Row bytes kinds.KeyOrder at = KeyRow bytes orders.Greater at
Row bytes kinds.KeyRepeat at = KeyRow bytes orders.Equal at
Row bytes kinds.Depth at = DepthRow bytes at
Row bytes kinds.Trailing at = TrailingRow bytes at
Row bytes kind at = HeadRow bytes kind at

-- ---- the first fault

-- the length of the head at the front
abbrev pub head_len : Result (RawHead × List ℕ) Flaw → ℕ → ℕ
head_len (Ok (raw, after)) len = len - length after
head_len (Err at) len = 0

-- the length of the head at the front, and of the byte string or text that it begins
abbrev pub text_len : Result (RawHead × List ℕ) Flaw → ℕ → ℕ
text_len (Ok (raw, after)) len = len - length after + raw.number
text_len (Err at) len = 0

-- the same behind tag 42, where a head that begins no byte string stands alone
abbrev pub content_len : Result (RawHead × List ℕ) Flaw → ℕ → ℕ
content_len (Ok (raw, after)) len = len - length after + (if raw.major == 2 then raw.number else 0)
content_len (Err at) len = 0

-- how many bytes must be there from the place of a fault on, to judge it: a head, a text with its head, a link's
-- tag and what stands behind it, the first byte after the item
abbrev pub span : CborKind → List ℕ → ℕ
span kinds.Cut bytes = 0
span kinds.LinkForm bytes = 2 + content_len (raw_head_at (drop 2 bytes)) (length (drop 2 bytes))
span kinds.Utf8 bytes = text_len (raw_head_at bytes) (length bytes)
span kinds.KeyOrder bytes = text_len (raw_head_at bytes) (length bytes)
span kinds.KeyRepeat bytes = text_len (raw_head_at bytes) (length bytes)
span kinds.Trailing bytes = 1
span kind bytes = head_len (raw_head_at bytes) (length bytes)

-- the moment of a fault: the number of bytes that must be there to judge it
unfoldable pub moment : List ℕ → CborKind → ℕ → ℕ
moment bytes kind at = at + span kind (drop at bytes)

-- the order in which faults are judged at one moment
abbrev pub rank : CborKind → ℕ
rank kinds.Cut = 0
rank kinds.LongHead = 1
rank kinds.Reserved = 2
rank kinds.Indefinite = 3
rank kinds.Float = 4
rank kinds.Simple = 5
rank kinds.Tag = 6
rank kinds.LinkForm = 7
rank kinds.Utf8 = 8
rank kinds.KeyKind = 9
rank kinds.KeyOrder = 10
rank kinds.KeyRepeat = 11
rank kinds.Depth = 12
rank kinds.Trailing = 13

-- the bytes have this fault, and any other comes at a later moment, or at the same one and later in the order
pub record IsFirst (bytes : List ℕ) (kind : CborKind) (at : ℕ) : Type 0 where
  pub row : Row bytes kind at
  pub first : (other : CborKind) (place : ℕ) → Row bytes other place
      → (moment bytes kind at < moment bytes other place) ⊎ ((moment bytes kind at ≡ moment bytes other place) × (rank kind ≤ rank other))

-- the bytes end inside an item, and have no fault before
pub record IsCut (bytes : List ℕ) (at : ℕ) : Type 0 where
  pub place : at ≡ length bytes
  pub nothing : (value : Value) → IsPlain MAX_DEPTH value → bytes ≡ spelled value → ⊥
  pub no_row : (other : CborKind) (place : ℕ) → Row bytes other place → ⊥

-- the fault that bytes have
pub data IsFault (bytes : List ℕ) (fault : CborFault) : Type 0 where
  cut : fault.kind ≡ kinds.Cut → IsCut bytes fault.at → IsFault bytes fault
  first : IsFirst bytes fault.kind fault.at → IsFault bytes fault
