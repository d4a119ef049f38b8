use Rattle.std.proofs.Common.{◌≡◌, ◌*◌, length, take}
use Rattle.blake2b_hash.specs.Blake.{bytes_of}
use Rattle.blake2b_hash.proofs.digest_len.DigestLen.digest_of.Given as goal

abbrev pub invariant-words : goal.invariant-words
invariant-words l = (length l.digest ≡ 64) × (take (l.i * 8) l.digest ≡ bytes_of (take l.i l.state))
