use Rattle.std.proofs.Common.{◌≡◌, ℕ, eqb, Option, Some, None, ap, ◌∙◌}
use Rattle.hamt_map.proofs.AheadSteps.{bucket_first, linked_first, no_tag}
use Rattle.hamt_map.proofs.stepping.is_link.Goals as goal

pub returns-in-Some-clause-bucket : goal.returns-in-Some-clause-bucket
returns-in-Some-clause-bucket c = λ ps is. no_tag c.in-Some.first.now (bucket_first ps c.args.pointer.now c.in-Some.first.now is c.in-Some.ensures.value)

pub returns-in-Some-clause-link : goal.returns-in-Some-clause-link
returns-in-Some-clause-link c = λ cid is.
    let same : ◌≡◌ {A = Option ℕ} (Some c.in-Some.first.now) (Some 216) = c.in-Some.ensures.value ∙ linked_first cid c.args.pointer.now is in
    let first : c.in-Some.first.now ≡ 216 = cc same in
    ap (λ (n : ℕ). eqb n 216) first

pub returns-in-None-clause-link : goal.returns-in-None-clause-link
returns-in-None-clause-link c = λ cid is.
    let same : ◌≡◌ {A = Option ℕ} None (Some 216) = c.in-None.ensures.value ∙ linked_first cid c.args.pointer.now is in
    absurd (cc same)
