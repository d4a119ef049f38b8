use Rattle.std.proofs.Common.{◌≡◌, ◌+◌, ◌%◌, ◌^◌, arith, ◌∙◌, refl, length, true}
use Rattle.blake2b_hash.specs.Compression.{words_of}
use Rattle.blake2b_hash.proofs.ChainLemmas.{compress_at}
use Rattle.blake2b_hash.proofs.chain.Chain.last.Goals as goal

pub returns : goal.returns
returns c = λ len n message after counted.
    let counter : (c.args.self.counter + c.args.used) % 2 ^ 128 ≡ length message % 2 ^ 128 = omega (arith, after.counter) in
    c.compress.ensures ∙ compress_at c.args.self.state (words_of c.args.block.now) _ (length message) true counter ∙ rw after.state refl
