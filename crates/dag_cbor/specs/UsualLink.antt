-- The links that the trees of the chain are made of: CIDs of version 1 under BLAKE2b-256 (b220), by digests of 32 bytes.
-- The codec is below 128, so that it is one byte: 71 for DAG-CBOR, 55 for the code of an actor.
use Rattle.std.specs.Prelude.{ℕ, List, [], ◌∷◌}
use Rattle.fil_base.specs.CidParts.{CidParts, parts}

-- the CID of a digest
abbrev pub usual : ℕ → List ℕ → CidParts
usual codec digest = parts 1 codec 0xb220 digest

-- what stands behind the codec: the code of the hash, and the length of the digest
abbrev pub usual_hash : List ℕ
usual_hash = 0xa0 ∷ 0xe4 ∷ 0x02 ∷ 0x20 ∷ []

-- what stands in front of the digest in the byte string of its link
abbrev pub usual_front : ℕ → List ℕ
usual_front codec = 0 ∷ 1 ∷ codec ∷ usual_hash

-- what stands in front of the codec in the whole link
abbrev pub link_front : List ℕ
link_front = 0xd8 ∷ 0x2a ∷ 0x58 ∷ 0x27 ∷ 0 ∷ 1 ∷ []

-- what stands in front of that digest in the whole link
abbrev pub usual_link_front : ℕ → List ℕ
usual_link_front codec = 0xd8 ∷ 0x2a ∷ 0x58 ∷ 0x27 ∷ usual_front codec
