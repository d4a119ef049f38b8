use Rattle.std.proofs.Common.{sym, ap, subst, ◌∙◌, ◌+◌, List, ℕ, Vec, Global, ◌<◌, All, arith}
use Rattle.std.proofs.lemmas.List.{map_push, nil_from_length}
use Rattle.amt_map.specs.Reading.{AreSpelled, shown}
use Rattle.amt_map.specs.ValueBytes.{the_value}
use Rattle.amt_map.proofs.CanonicalNode.{leaf_is_node}
use Rattle.amt_map.proofs.Gathering.{leaf_begin, leaf_more, leaf_end}
use Rattle.amt_map.proofs.OneValue.{the_spelled}
use Rattle.amt_map.proofs.loading.put_leaf.Goals as goal

pub loop-digit-init : goal.loop-digit-init
loop-digit-init c =
    let read = rw c.in-Some.is at c.in_ok-values.ensures.found in
    let small = rw c.in-Some.is at c.in_ok-values.ensures.digits in
    let all = sym c.into_iter-digit-iterator.ensures.into_iter_gives.0 in
    leaf_begin c.args.from _ read.0 (shown c.args.pairs.now.items) _ read.1 (subst (λ (vs : List (ℕ × Vec ℕ Global)). AreSpelled (shown vs) read.0) all read.2) (subst (λ (vs : List (ℕ × Vec ℕ Global)). All (λ v. v.0 < 8) vs) all small)

pub loop-digit-preserved : goal.loop-digit-preserved
loop-digit-preserved c =
    leaf_more c.args.from _ _ (shown c.loop-digit.pairs.items) (shown c.push.new.self.items) _ _ c.in-Some-2.digit c.in-Some-2.spelling c.requires.from c.in-Some-2.ensures.steps.0
    (ap shown c.in_ok-push.ensures.items ∙ map_push (λ p. (p.0, p.1.items)) c.loop-digit.pairs.items (c.args.from + c.in-Some-2.digit, c.in-Some-2.spelling)) c.loop-digit.invariant

pub returns-clause-found : goal.returns-clause-found
returns-clause-found c = leaf_end c.args.from _ c.args.cid.now _ _ _ (nil_from_length _ (sym c.loop-digit.digit-iterator.rest.ok.0 ∙ c.in-None.ensures.steps.0)) c.loop-digit.invariant

pub returns-clause-node : goal.returns-clause-node
returns-clause-node c = λ so pairs e. leaf_is_node c.args.node.now (the_value c.args.node.now) c.args.cid.now c.requires.place.0 c.args.from pairs c.requires.place.1 (λ i. omega (arith, c.type_inv.node i)) (the_spelled c.args.node.now c.requires.value) e
