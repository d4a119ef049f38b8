use Rattle.std.proofs.Common.{◌∙◌}
use Rattle.std.proofs.lemmas.Result.{on_ok_weaker}
use Rattle.hamt_map.proofs.BucketSteps.{many_texts, one_pair_text}
use Rattle.hamt_map.proofs.buckets.put_bucket.Goals as goal

pub returns-then-pairs-eq1 : goal.returns-then-pairs-eq1
returns-then-pairs-eq1 c = λ below ps are.
    on_ok_weaker c.put_pair.result (λ is. one_pair_text below c.args.pairs.now ps _ c.args.out.now.items _ _ are c.if-pairs-eq1.true c.in_ok-put_head.ensures is) c.put_pair.ensures

pub returns : goal.returns
returns c = λ below ps are.
    let ordered = c.in_ok-ordered.ordered in
    on_ok_weaker c.put_pairs.result
    (λ is. many_texts ps ordered.items _ c.len.result c.args.out.now.items _ _ (c.len.ensures ∙ ordered.ok.0) c.as_slice.ensures.value (c.in_ok-ordered.ensures below ps are) c.in_ok-put_head-2.ensures is) c.put_pairs.ensures
