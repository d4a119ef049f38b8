-- The state between two blocks of a message.
use Rattle.std.specs.Prelude.{◌≡◌, ℕ, ◌*◌, ◌%◌, ◌^◌, List}
use Rattle.blake2b_hash.specs.Blake.{state_after}
use Rattle.blake2b_hash.specs.declared.chain.Chain.{Chain}

-- the chain has taken in the first n blocks of a message whose digest is to have len bytes, and no block is the last;
-- its counter has 128 bits, as the standard's
pub record IsAfter (chain : Chain) (len : ℕ) (message : List ℕ) (n : ℕ) : Type 0 where
  pub state : chain.state ≡ state_after len message n
  pub counter : chain.counter ≡ n * 128 % 2 ^ 128
