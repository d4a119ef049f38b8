-- Reading as a function on lists: from the front, an item and the bytes after it, or a fault and how many bytes
-- are left at its place.
use Rattle.std.specs.Prelude.{◌≡◌, ℕ, ◌/◌, ◌%◌, zero, suc, pos, negsuc, List, [], ◌∷◌, ◌++◌, length, take, drop, Result, Ok, Err, Option, Some, None, true, false, nat_lt, ◌==◌, if◌then◌else◌}
use Rattle.std.specs.Int.{Width, w8, w16, w32, w64, byte_len, from_be_bytes}
use Rattle.std.specs.Str.{is_utf8}
use Rattle.std.specs.declared.cmp.Ordering.{Ordering}
use Rattle.std.specs.declared.cmp.Ordering.TheVariants.{Less, Equal, Greater}
use Rattle.fil_base.specs.declared.failure.Failure.{Failure}
use Rattle.fil_base.specs.Failure.{IfFault}
use Rattle.fil_base.specs.CidParts.{CidParts}
use Rattle.dag_cbor.specs.declared.value.Value.{Value}
use Rattle.dag_cbor.specs.declared.value.Value.TheVariants as v
use Rattle.dag_cbor.specs.declared.fault.Flaw.{Flaw}
use Rattle.dag_cbor.specs.declared.fault.CborKind.{CborKind}
use Rattle.dag_cbor.specs.declared.fault.CborKind.TheVariants as kinds
use Rattle.dag_cbor.specs.declared.head.RawHead.{RawHead}
use Rattle.dag_cbor.specs.declared.head.Head.{Head}
use Rattle.dag_cbor.specs.declared.head.TheConstants.{NATURAL, NEGATIVE, BYTES, TEXT, LIST, MAP, TAG}
use Rattle.dag_cbor.specs.declared.token.Token.{Token}
use Rattle.dag_cbor.specs.declared.token.Token.TheVariants as tokens
use Rattle.dag_cbor.specs.declared.decoding.TheConstants.{MAX_DEPTH}
use Rattle.dag_cbor.specs.CidReading.{cid_of}
use Rattle.dag_cbor.specs.HeadRows.{head_fault}
use Rattle.dag_cbor.specs.Keys.{last_key, order_after}

-- a fault, and how many bytes are left at its place
abbrev pub flaw : CborKind → ℕ → Flaw
flaw kind left = record { kind = kind; left = left }

-- one step of reading after another
infixl 10 ◌>>=◌
abbrev pub ◌>>=◌ : {A B : Type 0} → Result A Flaw → (A → Result B Flaw) → Result B Flaw
(Ok x) >>= next = next x
(Err at) >>= next = Err at

-- what a function returned, seen by `view`, is what reading gives
abbrev pub Gives : {X Y : Type 0} → (X → Y) → Result X Flaw → Result Y Flaw → Type 0
Gives view (Ok x) read = read ≡ Ok (view x)
Gives view (Err at) read = read ≡ Err at

-- what a function returned, seen by `view`, is what reading gives, unless there was no memory
abbrev pub GivesOrNoMemory : {X Y : Type 0} → (X → Y) → Result X (Failure Flaw) → Result Y Flaw → Type 0
GivesOrNoMemory view (Ok x) read = read ≡ Ok (view x)
GivesOrNoMemory view (Err failure) read = IfFault failure (λ at. read ≡ Err at)

-- ---- heads

-- a number in all the bytes of a width, the highest first
abbrev pub number_at : Width → List ℕ → Result (ℕ × List ℕ) Flaw
number_at width bytes =
    if nat_lt (length bytes) (byte_len width) then Err (flaw kinds.Cut 0)
    else Ok (from_be_bytes width (take (byte_len width) bytes), drop (byte_len width) bytes)

-- the number that the low bits of a head are, or that the bytes have which they say
abbrev pub number_behind : ℕ → List ℕ → Result (ℕ × List ℕ) Flaw
number_behind info bytes =
    if info == 24 then number_at w8 bytes
    else (if info == 25 then number_at w16 bytes
    else (if info == 26 then number_at w32 bytes
    else (if info == 27 then number_at w64 bytes
    else Ok (info, bytes))))

-- a head with this number
abbrev pub with_number : ℕ → ℕ → ℕ × List ℕ → Result (RawHead × List ℕ) Flaw
with_number major info (number, rest) = Ok (record { major = major; info = info; number = number }, rest)

-- a head, whether good or not
unfoldable pub raw_head_at : List ℕ → Result (RawHead × List ℕ) Flaw
raw_head_at [] = Err (flaw kinds.Cut 0)
raw_head_at (first ∷ rest) = number_behind (first % 32) rest >>= with_number (first / 32) (first % 32)

-- this, unless there is a fault
abbrev pub unless : {A : Type 0} → Option CborKind → ℕ → A → Result A Flaw
unless None left x = Ok x
unless (Some kind) left x = Err (flaw kind left)

-- a head that has no fault by itself
abbrev pub judged : ℕ → RawHead × List ℕ → Result (Head × List ℕ) Flaw
judged left (raw, rest) = unless (head_fault raw) left (record { major = raw.major; number = raw.number }, rest)

-- a head
unfoldable pub head_at : List ℕ → Result (Head × List ℕ) Flaw
head_at bytes = raw_head_at bytes >>= judged (length bytes)

-- a head at a depth that is left
abbrev pub within : ℕ → ℕ → Head × List ℕ → Result (Head × List ℕ) Flaw
within room left h = if room == 0 then Err (flaw kinds.Depth left) else Ok h

-- ---- byte strings, texts and links

-- a byte string of this length
unfoldable pub blob_at : ℕ → List ℕ → Result (List ℕ × List ℕ) Flaw
blob_at len bytes = if nat_lt (length bytes) len then Err (flaw kinds.Cut 0) else Ok (take len bytes, drop len bytes)

-- bytes that are a text
abbrev pub as_text : ℕ → List ℕ × List ℕ → Result (List ℕ × List ℕ) Flaw
as_text left (text, rest) = if is_utf8 text then Ok (text, rest) else Err (flaw kinds.Utf8 left)

-- a text of this length, behind its head
unfoldable pub text_at : ℕ → ℕ → List ℕ → Result (List ℕ × List ℕ) Flaw
text_at left len bytes = blob_at len bytes >>= as_text left

-- the head of the byte string behind a link's tag
abbrev pub of_link : ℕ → Head × List ℕ → Result (Head × List ℕ) Flaw
of_link left h = if h.0.major == BYTES then Ok h else Err (flaw kinds.LinkForm left)

-- 00 and a CID
abbrev pub linked : List ℕ → Option CidParts
linked [] = None
linked (zero ∷ bytes) = cid_of bytes
linked (suc n ∷ bytes) = None

-- the CID of a link, behind its tag
abbrev pub as_cid : ℕ → List ℕ × List ℕ → Result (CidParts × List ℕ) Flaw
as_cid left (bytes, rest) = elim (linked bytes) [ Some cid ↦ Ok (cid, rest) | None ↦ Err (flaw kinds.LinkForm left) ]

-- the CID of a link, whose tag is read
unfoldable pub link_at : ℕ → List ℕ → Result (CidParts × List ℕ) Flaw
link_at left bytes = head_at bytes >>= of_link left >>= λ h. blob_at h.0.number h.1 >>= as_cid left

-- ---- keys

-- a key's head
abbrev pub of_key : ℕ → ℕ → Head × List ℕ → Result (Head × List ℕ) Flaw
of_key room left h = if h.0.major == TEXT then within room left h else Err (flaw kinds.KeyKind left)

-- a key, if it comes behind the last one in this order
abbrev pub in_order : {A : Type 0} → Ordering → ℕ → A → Result A Flaw
in_order Less left x = Ok x
in_order Equal left x = Err (flaw kinds.KeyRepeat left)
in_order Greater left x = Err (flaw kinds.KeyOrder left)

-- a key that comes after the last one
abbrev pub after_last : Option (List ℕ) → ℕ → List ℕ × List ℕ → Result (List ℕ × List ℕ) Flaw
after_last last left key = in_order (order_after last key.0) left key

-- a key of a map, of which some pairs are read
unfoldable pub key_at : ℕ → List (List ℕ × Value) → List ℕ → Result (List ℕ × List ℕ) Flaw
key_at room done bytes =
    head_at bytes >>= of_key room (length bytes) >>= (λ h. text_at (length bytes) h.0.number h.1) >>= after_last (last_key done) (length bytes)

-- ---- items

-- false, true or null
abbrev pub simple : ℕ → Value
simple number = if number == 20 then v.Bool false else (if number == 21 then v.Bool true else v.Null)

abbrev pub blob_token : List ℕ × List ℕ → Result (Token × List ℕ) Flaw
blob_token (blob, rest) = Ok (tokens.Whole (v.Blob blob), rest)

abbrev pub text_token : List ℕ × List ℕ → Result (Token × List ℕ) Flaw
text_token (text, rest) = Ok (tokens.Whole (v.Text text), rest)

abbrev pub link_token : CidParts × List ℕ → Result (Token × List ℕ) Flaw
link_token (cid, rest) = Ok (tokens.Whole (v.Link cid), rest)

-- what stands behind a head: the rest of an item, or the items of a list or a map
abbrev pub token_after : ℕ → Head × List ℕ → Result (Token × List ℕ) Flaw
token_after left (head, bytes) =
    if head.major == NATURAL then Ok (tokens.Whole (v.Int (pos head.number)), bytes)
    else (if head.major == NEGATIVE then Ok (tokens.Whole (v.Int (negsuc head.number)), bytes)
    else (if head.major == BYTES then blob_at head.number bytes >>= blob_token
    else (if head.major == TEXT then text_at left head.number bytes >>= text_token
    else (if head.major == LIST then Ok (tokens.List head.number, bytes)
    else (if head.major == MAP then Ok (tokens.Map head.number, bytes)
    else (if head.major == TAG then link_at left bytes >>= link_token
    else Ok (tokens.Whole (simple head.number), bytes)))))))

-- an item that is no list and no map, or the head of a list or a map
unfoldable pub token_at : ℕ → List ℕ → Result (Token × List ℕ) Flaw
token_at room bytes = head_at bytes >>= within room (length bytes) >>= token_after (length bytes)

-- a list, of which some items are read and so many are still wanted
unfoldable pub listed : (List ℕ → Result (Value × List ℕ) Flaw) → List Value → ℕ → List ℕ → Result (Value × List ℕ) Flaw
listed item done zero bytes = Ok (v.List done, bytes)
listed item done (suc wanted) bytes = item bytes >>= λ x. listed item (done ++ x.0 ∷ []) wanted x.1

-- a map, of which some pairs are read and so many are still wanted
unfoldable pub mapped : ℕ → (List ℕ → Result (Value × List ℕ) Flaw) → List (List ℕ × Value) → ℕ → List ℕ → Result (Value × List ℕ) Flaw
mapped room item done zero bytes = Ok (v.Map done, bytes)
mapped room item done (suc wanted) bytes =
    key_at room done bytes >>= λ k. item k.1 >>= λ x. mapped room item (done ++ (k.0, x.0) ∷ []) wanted x.1

-- an item, whose token is read
abbrev pub opened_at : ℕ → (List ℕ → Result (Value × List ℕ) Flaw) → Token × List ℕ → Result (Value × List ℕ) Flaw
opened_at room item (tokens.Whole value, bytes) = Ok (value, bytes)
opened_at room item (tokens.List count, bytes) = listed item [] count bytes
opened_at room item (tokens.Map count, bytes) = mapped room item [] count bytes

-- an item of at most this depth
unfoldable pub item_at : ℕ → List ℕ → Result (Value × List ℕ) Flaw
item_at zero bytes = token_at 0 bytes >>= λ t. Err (flaw kinds.Depth (length bytes))
item_at (suc depth) bytes = token_at (suc depth) bytes >>= opened_at depth (item_at depth)

-- an item, and nothing after it
unfoldable pub whole_at : List ℕ → Result Value Flaw
whole_at bytes = item_at MAX_DEPTH bytes >>= λ x. if length x.1 == 0 then Ok x.0 else Err (flaw kinds.Trailing (length x.1))
