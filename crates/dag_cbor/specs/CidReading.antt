-- The CID that bytes spell (the CID specification; the multiformats specification, "unsigned-varint").
use Rattle.std.specs.Prelude.{ℕ, ◌+◌, ◌-◌, ◌*◌, ◌^◌, nat_lt, ◌==◌, Bool, ◌&&◌, ◌||◌, nat_eq, if◌then◌else◌, List, [], ◌∷◌, length, take, drop, Option, Some, None}
use Rattle.std.specs.Cmp.Lexicographic.{pointwise}
use Rattle.fil_base.specs.CidParts.{CidParts}
use Rattle.fil_base.specs.CidBytes.{cid_bytes}

-- a number of varying length, and the bytes after it: seven bits a byte, the lowest first
unfoldable pub varint_at : List ℕ → ℕ × List ℕ
varint_at [] = (0, [])
varint_at (byte ∷ bytes) = if nat_lt byte 128 then (byte, bytes) else (byte - 128 + 128 * (varint_at bytes).0, (varint_at bytes).1)

-- the parts of a CID of version 0, behind its first two bytes
abbrev pub version0_at : List ℕ → CidParts × List ℕ
version0_at bytes = (record { version = 0; codec = 0x70; hash = 0x12; digest = take 32 bytes }, drop 32 bytes)

-- a digest behind its length
abbrev pub digest_at : ℕ → ℕ → ℕ × List ℕ → CidParts × List ℕ
digest_at codec hash (len, bytes) = (record { version = 1; codec = codec; hash = hash; digest = take len bytes }, drop len bytes)

-- a hash code and a digest
abbrev pub multihash_at : ℕ → ℕ × List ℕ → CidParts × List ℕ
multihash_at codec (hash, bytes) = digest_at codec hash (varint_at bytes)

-- a codec, a hash code and a digest
abbrev pub content_at : ℕ × List ℕ → CidParts × List ℕ
content_at (codec, bytes) = multihash_at codec (varint_at bytes)

-- the parts of a CID, and the bytes after it, where the bytes begin with one
unfoldable pub parts_at : List ℕ → CidParts × List ℕ
parts_at [] = version0_at []
parts_at (first ∷ bytes) = if first == 0x12 then version0_at (drop 1 bytes) else content_at (varint_at bytes)

-- whether parts make a CID
abbrev pub is_cid : CidParts → Bool
is_cid c =
    nat_lt c.version 2 && nat_lt c.codec (2 ^ 63) && nat_lt c.hash (2 ^ 63) && nat_lt (length c.digest) 129
    && (c.version == 1 || (c.codec == 0x70 && c.hash == 0x12 && length c.digest == 32))

-- the CID that all of the bytes spell
unfoldable pub cid_of : List ℕ → Option CidParts
cid_of bytes =
    let c = (parts_at bytes).0 in
    if is_cid c && pointwise nat_eq (cid_bytes c) bytes then Some c else None
