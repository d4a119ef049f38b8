use Rattle.std.proofs.Common.{◌≡◌, ◌+◌, ◌-◌, ◌*◌, arith}
use Rattle.blake2b_hash.proofs.ChainLemmas.{IsAfter_at, next_block}
use Rattle.blake2b_hash.proofs.chain.Chain.take_blocks.Goals as goal

pub blocks-2-preserved : goal.blocks-2-preserved
blocks-2-preserved c = λ len n message after rest.
    let i = c.blocks-2.i in
    let width : i * 128 + 128 - i * 128 ≡ 128 = omega arith in
    IsAfter_at c.take.new.self len message (n + i + 1) (n + (i + 1)) (omega arith)
    (c.take.ensures len (n + i) message (c.blocks-2.invariant len n message after rest)
    (next_block n i _ message c.args.bytes.now rest width))
