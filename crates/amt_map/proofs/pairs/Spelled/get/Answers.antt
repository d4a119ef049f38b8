use Rattle.std.proofs.Common.{◌∙◌, Some, ap, refl, subst, sym}
use Rattle.amt_map.specs.Holds.{IsSpelling}
use Rattle.amt_map.proofs.Held.{found-Holds, found_spelling, missing-Holds, same_value}
use Rattle.amt_map.proofs.Spellings.{find-view, view}
use Rattle.amt_map.proofs.pairs.Spelled.get.Goals as goal

pub returns-in-None : goal.returns-in-None
returns-in-None c = λ m held. missing-Holds c.args.self.now m c.args.index held (find-view c.args.index c.self.inside.inner.entries c.args.self.now _ c.self.view_is c.in-None.ensures.value)

pub value_of-requires : goal.value_of-requires
value_of-requires c =
    subst IsSpelling (sym c.as_slice.ensures.value) (found_spelling (view c.self.inside.inner.entries) c.self.invariant.0 c.args.index c.in-Some.spelling.now.items c.self.invariant.1
    (find-view c.args.index c.self.inside.inner.entries _ _ refl c.in-Some.ensures.value))

pub returns-in_ok-value-in-Some : goal.returns-in_ok-value-in-Some
returns-in_ok-value-in-Some c = λ m held.
    let there = found-Holds c.args.self.now m c.args.index c.in-Some.spelling.now.items held (find-view c.args.index c.self.inside.inner.entries c.args.self.now _ c.self.view_is c.in-Some.ensures.value) in
    let same = same_value 125 c.as_slice.result.now c.in_ok-value-in-Some.value there.0 c.in_ok-value-in-Some.ensures.plain c.in_ok-value-in-Some.ensures.value there.2 (c.as_slice.ensures.value ∙ there.3) in
    ap Some same ∙ sym there.1
