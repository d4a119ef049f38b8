use Rattle.std.proofs.Common.{◌≡◌, ℕ, ◌+◌, List}
use Rattle.blake2b_hash.specs.Blake.{from_block}
use Rattle.blake2b_hash.specs.Chain.{IsAfter}
use Rattle.blake2b_hash.proofs.chain.Chain.take_blocks.Given as goal

abbrev pub invariant-blocks-2 : goal.invariant-blocks-2
invariant-blocks-2 l = (len n : ℕ) (message : List ℕ) → IsAfter l.fn.self len message n
    → l.bytes ≡ from_block n message → IsAfter l.self len message (n + l.i)
