-- How a CID is spelled as bytes (the CID specification, "CIDv1" and "CIDv0").
use Rattle.std.specs.Prelude.{ℕ, ◌==◌, List, ◌∷◌, ◌++◌, length, if◌then◌else◌}
use Rattle.fil_base.specs.CidParts.{CidParts}
use Rattle.fil_base.specs.Varint.{varint}

-- version 0 is a bare multihash, 12 20 and 32 bytes; version 1 has its number, codec and hash code in front, and
-- the digest behind its length
unfoldable pub cid_bytes : CidParts → List ℕ
cid_bytes c =
    if c.version == 0 then 0x12 ∷ (0x20 ∷ c.digest)
    else varint 1 ++ (varint c.codec ++ (varint c.hash ++ (varint (length c.digest) ++ c.digest)))
