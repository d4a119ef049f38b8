use Rattle.std.proofs.Common.{◌++◌, ap, subst, sym, ◌∙◌}
use Rattle.std.proofs.lemmas.List.Elements.{All-nil}
use Rattle.amt_map.specs.Holds.{FitRoot, IsSpelling, spellings}
use Rattle.amt_map.proofs.Held.{AreSpellings, AreSpellings-Holds, Fits, ReadSoFar, read_more, read_all, read_entries}
use Rattle.amt_map.proofs.Spellings.{view}
use Rattle.amt_map.proofs.pairs.Spelled.decoded.Goals as goal

pub loop-index-init : goal.loop-index-init
loop-index-init c =
    let all = ap view c.into_iter-index-iterator.ensures.into_iter_gives.0 in
    let none = c.in_ok-pairs.ensures.items in
    record {
      all = sym (ap (λ done. spellings done ++ view c.into_iter-index-iterator.result) none ∙ all ∙ c.self.view_is);
      fit = subst FitRoot (sym none) (All-nil Fits);
      spelled = subst AreSpellings (sym all) (AreSpellings-Holds _ c.self.invariant.0 c.self.invariant.1);
    }

pub value_of-requires : goal.value_of-requires
value_of-requires c = subst IsSpelling (sym c.as_slice.ensures.value) (subst AreSpellings (ap view c.in-Some.ensures.steps) c.loop-index.invariant.spelled).0.1

pub loop-index-preserved : goal.loop-index-preserved
loop-index-preserved c =
    subst (ReadSoFar c.args.self.now _) (sym c.in_ok-push.ensures.items)
    (read_more c.args.self.now _ c.loop-index.pairs.items (c.in-Some.index.now, c.in-Some.spelling.now.items) c.in_ok-value.value
    (subst (λ left. ReadSoFar c.args.self.now left c.loop-index.pairs.items) (ap view c.in-Some.ensures.steps) c.loop-index.invariant)
    c.in_ok-value.ensures.plain (sym c.as_slice.ensures.value ∙ c.in_ok-value.ensures.value))

pub returns-clause-map : goal.returns-clause-map
returns-clause-map c = λ m held.
    read_entries c.args.self.now m c.loop-index.pairs.items held (read_all c.args.self.now _ c.loop-index.pairs.items c.loop-index.invariant (ap view c.in-None.ensures.steps.0)) c.loop-index.invariant.fit
