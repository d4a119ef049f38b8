use Rattle.std.proofs.Common.{◌-◌, arith}
use Rattle.std.specs.Cmp.Lexicographic.{same_text}
use Rattle.hamt_map.proofs.FoundUnder.{first_found, first_other, first_read, other_text}
use Rattle.hamt_map.proofs.finding.find_in_bucket.Goals as goal

pub returns-then-eq : goal.returns-then-eq
returns-then-eq c = λ ps is fit.
    let at = c.loop-left in
    let first = first_read ps c.args.key.now at.left at.rest.now c.in_ok-own.own.now c.in_ok-own.spelling.now c.in_ok-own.behind.now (omega (arith, c.loop-left-test.true)) (at.invariant ps is fit) c.in_ok-own.ensures in
    let same = same_text c.in_ok-own.own.now c.args.key.now c.if-eq.ensures in
    first_found ps c.args.key.now (at.left - 1) at.rest.now c.in_ok-own.own.now c.in_ok-own.spelling.now c.in_ok-own.behind.now first same

pub loop-left-preserved : goal.loop-left-preserved
loop-left-preserved c = λ ps is fit.
    let at = c.loop-left in
    let first = first_read ps c.args.key.now at.left at.rest.now c.in_ok-own.own.now c.in_ok-own.spelling.now c.in_ok-own.behind.now (omega (arith, c.loop-left-test.true)) (at.invariant ps is fit) c.in_ok-own.ensures in
    let apart = other_text c.in_ok-own.own.now c.args.key.now c.if-eq.ensures in
    first_other ps c.args.key.now (at.left - 1) at.rest.now c.in_ok-own.own.now c.in_ok-own.spelling.now c.in_ok-own.behind.now first apart
