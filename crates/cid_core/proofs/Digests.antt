-- Digests of 32 bytes, and the CID under one.
use Rattle.std.proofs.Common.{take, ◌≡◌, ℕ, ◌^◌, ◌<◌, List, ◌++◌, length, replicate, inl, refl, sym, ap, ◌∙◌, arith}
use Rattle.blake2b_hash.specs.Blake.{blake}
use Rattle.blake2b_hash.proofs.DigestFacts.{length-blake, take-digest}
use Rattle.fil_base.specs.CidParts.{IsCid}
use Rattle.cid_core.specs.CidOf.{cid_of}
use Rattle.cid_core.specs.BlockParts.{IsBlock, block_of}

pub front_of_digest : (whole message : List ℕ) → whole ≡ blake 32 message ++ replicate 32 0 → take 32 whole ≡ blake 32 message
front_of_digest whole message is = ap (take 32) is ∙ take-digest 32 message (omega arith)

pub length-front : (whole message : List ℕ) → whole ≡ blake 32 message ++ replicate 32 0 → 32 ≡ length (take 32 whole)
length-front whole message is = sym (ap length (front_of_digest whole message is) ∙ length-blake 32 message (omega arith))

pub IsCid-cid_of : (codec : ℕ) (bytes : List ℕ) → codec < 2 ^ 63 → IsCid (cid_of codec bytes)
IsCid-cid_of codec bytes small = record {
  version = omega arith;
  codec = small;
  hash = omega arith;
  digest = rw (length-blake 32 bytes (omega arith)) (omega arith);
  version0 = λ is. absurd (omega arith);
}

pub IsBlock-block_of : (codec : ℕ) (bytes : List ℕ) → codec < 2 ^ 63 → IsBlock (block_of codec bytes)
IsBlock-block_of codec bytes small = record {
  cid = IsCid-cid_of codec bytes small;
  supported = record { version = refl; hash = inl refl; digest = length-blake 32 bytes (omega arith) };
  matches = refl;
}
