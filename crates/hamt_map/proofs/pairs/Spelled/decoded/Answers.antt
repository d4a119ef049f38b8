use Rattle.std.proofs.Common.{ℕ, List, ◌∷◌, ◌++◌, [], ap, subst, sym, ◌∙◌}
use Rattle.std.proofs.lemmas.List.Elements.{All-nil}
use Rattle.dag_cbor.specs.Plain.{IsPlain}
use Rattle.hamt_map.specs.Holds.{FitNodes, IsSpelling, spellings}
use Rattle.hamt_map.proofs.Held.{AreSpellings, AreSpellings-Holds, ReadSoFar, read_more, read_all, read_entries}
use Rattle.hamt_map.proofs.Spellings.{view}
use Rattle.hamt_map.proofs.pairs.Spelled.decoded.Goals as goal

pub loop-key-init : goal.loop-key-init
loop-key-init c =
    let all = ap view c.into_iter-key-iterator.ensures.into_iter_gives.0 in
    let none = c.in_ok-pairs.ensures.items in
    record {
      all = sym (ap (λ done. spellings done ++ view c.into_iter-key-iterator.result) none ∙ all ∙ c.self.view_is);
      fit = subst FitNodes (sym none) (All-nil (λ p. IsPlain 124 p.1));
      spelled = subst AreSpellings (sym all) (AreSpellings-Holds _ c.self.invariant.0 c.self.invariant.1);
    }

pub value_of-requires : goal.value_of-requires
value_of-requires c = subst IsSpelling (sym c.as_slice.ensures.value) (subst AreSpellings (ap view c.in-Some.ensures.steps) c.loop-key.invariant.spelled).0

pub loop-key-preserved : goal.loop-key-preserved
loop-key-preserved c =
    let key = c.in_ok-key.ensures ∙ c.as_slice-in-loop-key.ensures.value in
    subst (ReadSoFar c.args.self.now _) (sym (c.in_ok-push.ensures.items ∙ ap (λ (k : List ℕ). c.loop-key.pairs.items ++ (k, c.in_ok-value.value) ∷ []) key))
    (read_more c.args.self.now _ c.loop-key.pairs.items (c.in-Some.key.now.items, c.in-Some.spelling.now.items) c.in_ok-value.value
    (subst (λ left. ReadSoFar c.args.self.now left c.loop-key.pairs.items) (ap view c.in-Some.ensures.steps) c.loop-key.invariant)
    c.in_ok-value.ensures.plain (sym c.as_slice.ensures.value ∙ c.in_ok-value.ensures.value))

pub returns-clause-map : goal.returns-clause-map
returns-clause-map c = λ m held.
    read_entries c.args.self.now m c.loop-key.pairs.items held (read_all c.args.self.now _ c.loop-key.pairs.items c.loop-key.invariant (ap view c.in-None.ensures.steps.0)) c.loop-key.invariant.fit
