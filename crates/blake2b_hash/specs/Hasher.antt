-- What a contract sees of a hasher: the length that it was begun with, and the bytes given so far.
use Rattle.std.specs.Prelude.{◌≡◌, ℕ, List}
use Rattle.blake2b_hash.specs.Blake.{before_last, from_block}
use Rattle.blake2b_hash.specs.Chain.{IsAfter}
use Rattle.blake2b_hash.specs.declared.hasher.Hasher.{Hasher}

-- the hasher stands for a digest of len bytes, and for the bytes given so far: it has taken in all their blocks but the
-- last, and keeps the bytes of that one
pub record Stands (hasher : Hasher) (len : ℕ) (given : List ℕ) : Type 0 where
  pub asked : hasher.len ≡ len
  pub taken : IsAfter hasher.chain len given (before_last given)
  pub kept : hasher.block ≡ from_block (before_last given) given
