use Rattle.std.proofs.Common.{◌≡◌, ◌+◌, ◌-◌, ◌<◌, ℕ, drop, subst, arith}
use Rattle.hamt_map.specs.Ahead.{AreAhead}
use Rattle.hamt_map.specs.Groups.{by_place}
use Rattle.hamt_map.specs.Pairs.{at_place}
use Rattle.hamt_map.proofs.AheadSteps.{no_pointer_at}
use Rattle.hamt_map.proofs.FoundUnder.{next_place}
use Rattle.hamt_map.proofs.finding.pointer_at.Goals as goal

pub returns-then-ahead-place-eq0 : goal.returns-then-ahead-place-eq0
returns-then-ahead-place-eq0 c = λ below ps is fit.
    no_pointer_at below c.args.place ps c.in_ok-ahead.ahead.bits c.in_ok-ahead.ahead.pointers.now c.requires (c.in_ok-ahead.ensures below ps is fit) c.if-ahead-place-eq0.true

pub loop-preserved : goal.loop-preserved
loop-preserved c = λ below ps is fit.
    let at = c.loop in
    let small : at.counter < 32 = omega (arith, c.loop-test.true, c.requires) in
    (c.in_ok-behind.ensures below (at_place (51 - below) at.counter ps) (drop (at.counter + 1) (by_place (51 - below) ps)) (next_place below at.counter ps at.ahead.bits at.ahead.pointers.now small (at.invariant below ps is fit))).1

pub returns : goal.returns
returns c = λ below ps is fit.
    let at = c.loop in
    let place = c.args.place in
    let same : at.counter ≡ place = omega (arith, c.loop-test.false, at.auto.counter-end) in
    let ahead = subst (λ (k : ℕ). AreAhead below (drop k (by_place (51 - below) ps)) at.ahead.bits at.ahead.pointers.now) same (at.invariant below ps is fit) in
    (c.in_ok-pointer.ensures below (at_place (51 - below) place ps) (drop (place + 1) (by_place (51 - below) ps)) (next_place below place ps at.ahead.bits at.ahead.pointers.now c.requires ahead)).0
