use Rattle.std.proofs.Common.{◌≡◌, ◌+◌, ◌*◌, ◌%◌, ◌^◌, arith, sym, ◌∙◌, false}
use Rattle.blake2b_hash.specs.Compression.{words_of}
use Rattle.blake2b_hash.proofs.ChainLemmas.{compress_at, state_after_next}
use Rattle.blake2b_hash.proofs.chain.Chain.take.Goals as goal

pub returns : goal.returns
returns c = λ len n message after block.
    let counter : (c.args.self.now.counter + 128) % 2 ^ 128 ≡ (n + 1) * 128 % 2 ^ 128 = omega (arith, after.counter) in
    record {
      state = c.compress.ensures ∙ compress_at c.args.self.now.state (words_of c.args.block.now) _ ((n + 1) * 128) false counter
          ∙ rw (after.state, block) (sym (state_after_next len message n));
      counter = counter;
    }
