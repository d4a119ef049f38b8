use Rattle.std.specs.Cmp.Lexicographic.{same_text}
use Rattle.hamt_map.proofs.BucketPairs.{has_lent}
use Rattle.hamt_map.proofs.kept_bucket.has_key.Goals as goal

pub returns-then-eq : goal.returns-then-eq
returns-then-eq c = λ below ps are found.
    has_lent below c.loop-pair.pair-index c.args.pairs.now ps _ c.args.key.now are c.loop-pair-test.true (same_text _ c.args.key.now c.if-eq.ensures)
