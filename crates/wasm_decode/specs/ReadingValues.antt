-- Reading numbers, names and vectors.
use Rattle.std.specs.Prelude.{ℕ, ◌+◌, ◌-◌, ◌*◌, ◌/◌, ◌^◌, zero, suc, List, [], ◌∷◌, ◌++◌, length, take, drop, not, ◌&&◌, nat_lt, ◌==◌, if◌then◌else◌, Result, Ok, Err}
use Rattle.std.specs.Str.{is_utf8}
use Rattle.wasm_decode.specs.declared.fault.Stop.{Stop}
use Rattle.wasm_decode.specs.declared.fault.Stop.TheVariants.{Short}
use Rattle.wasm_decode.specs.declared.fault.WasmKind.TheVariants as kinds
use Rattle.wasm_decode.specs.Stops.{◌>>=◌, Found, Part, closed, refused, unless}

-- ---- bytes

-- one byte
abbrev pub byte_at : List ℕ → Found ℕ
byte_at [] = Err Short
byte_at (byte ∷ rest) = Ok (byte, rest)

-- so many bytes
abbrev pub blob_at : ℕ → List ℕ → Found (List ℕ)
blob_at size bytes = if nat_lt (length bytes) size then Err Short else Ok (take size bytes, drop size bytes)

-- just these bytes, which are judged as one at `place`: the rest
unfoldable pub just_at : List ℕ → List ℕ → List ℕ → Result (List ℕ) Stop
just_at place [] bytes = Ok bytes
just_at place (wanted ∷ more) [] = Err Short
just_at place (wanted ∷ more) (byte ∷ rest) = if byte == wanted then just_at place more rest else refused kinds.Form place

-- ---- numbers

-- the byte whose low seven bits are a number's lowest, and the rest of the number
abbrev pub grouped : ℕ → ℕ × List ℕ → Found ℕ
grouped byte (high, rest) = Ok ((byte - 128) + 128 * high, rest)

-- an unsigned number in at most so many bytes and one more, of which the last is below `top`
unfoldable pub unsigned_from : ℕ → ℕ → List ℕ → List ℕ → Found ℕ
unsigned_from more top place [] = Err Short
unsigned_from zero top place (byte ∷ rest) = if nat_lt byte top then Ok (byte, rest) else refused kinds.Form place
unsigned_from (suc more) top place (byte ∷ rest) =
    if nat_lt byte 128 then Ok (byte, rest) else unsigned_from more top place rest >>= grouped byte

-- an unsigned number of 32 bits
unfoldable pub u32_at : List ℕ → Found ℕ
u32_at bytes = unsigned_from 4 16 bytes bytes

-- the bits of a signed number in at most so many bytes and one more, of which the last has bits below `top`
unfoldable pub signed_from : ℕ → ℕ → List ℕ → List ℕ → Found ℕ
signed_from more top place [] = Err Short
signed_from zero top place (byte ∷ rest) =
    if nat_lt byte (top / 2) then Ok (byte, rest)
    else (if not (nat_lt (byte + top / 2) 128) && nat_lt byte 128 then Ok (byte + top - 128, rest)
    else refused kinds.Form place)
signed_from (suc more) top place (byte ∷ rest) =
    if nat_lt byte 64 then Ok (byte, rest)
    else (if nat_lt byte 128 then Ok (byte + top * 128 ^ suc more - 128, rest)
    else signed_from more top place rest >>= grouped byte)

-- the bits of a signed number of 32 bits
unfoldable pub i32_at : List ℕ → Found ℕ
i32_at bytes = signed_from 4 16 bytes bytes

-- the bits of a signed number of 64 bits
unfoldable pub i64_at : List ℕ → Found ℕ
i64_at bytes = signed_from 9 2 bytes bytes

-- ---- names

-- bytes behind their number
unfoldable pub bytes_at : List ℕ → Found (List ℕ)
bytes_at bytes = u32_at bytes >>= λ n. blob_at n.0 n.1

-- a name, which is in UTF-8
unfoldable pub name_at : List ℕ → Found (List ℕ)
name_at bytes = bytes_at bytes >>= λ name. unless (not (is_utf8 name.0)) kinds.Form bytes name

-- ---- vectors

-- a number of items, which is at most `most`
unfoldable pub count_at : ℕ → List ℕ → Found ℕ
count_at most bytes = u32_at bytes >>= λ n. unless (nat_lt most n.0) kinds.Limit bytes n

-- the same of a number that is given elsewhere
unfoldable pub same_count_at : ℕ → ℕ → List ℕ → Found ℕ
same_count_at wanted most bytes = count_at most bytes >>= λ n. unless (not (n.0 == wanted)) kinds.Form bytes n

-- some items, of which these are read and so many are still wanted
unfoldable pub items_at : {A : Type 0} → (List ℕ → Found A) → List A → ℕ → List ℕ → Found (List A)
items_at item done zero bytes = Ok (done, bytes)
items_at item done (suc wanted) bytes = item bytes >>= λ x. items_at item (done ++ x.0 ∷ []) wanted x.1

-- a vector of at most so many items
unfoldable pub vector_at : {A : Type 0} → ℕ → (List ℕ → Found A) → List ℕ → Found (List A)
vector_at most item bytes = count_at most bytes >>= λ n. items_at item [] n.0 n.1

-- ---- parts with a size

-- a part behind its size, which stands at the front
unfoldable pub part_at : List ℕ → Result Part Stop
part_at bytes =
    u32_at bytes
    >>= λ size. Ok (record { content = take size.0 size.1; behind = drop size.0 size.1; is_cut = nat_lt (length size.1) size.0; left = length bytes })

-- content behind its size
unfoldable pub sized_at : {A : Type 0} → (List ℕ → Found A) → List ℕ → Found A
sized_at content bytes = part_at bytes >>= λ part. closed part (content part.content)
