use Rattle.std.proofs.Common.{◌++◌, ap, subst, sym, ◌∙◌}
use Rattle.hamt_map.specs.Holds.{IsSpelling}
use Rattle.hamt_map.proofs.Held.{AreSpellings, AreSpellings-Holds}
use Rattle.hamt_map.proofs.Spellings.{view}
use Rattle.hamt_map.proofs.pairs.Spelled.put_leaves.Goals as goal

pub loop-key-init : goal.loop-key-init
loop-key-init c =
    let all = ap view c.into_iter-key-iterator.ensures.into_iter_gives.0 in
    record {
      put = ap (λ xs. c.args.leaves.now.items ++ xs) (all ∙ c.self.view_is);
      spelled = subst AreSpellings (sym all) (AreSpellings-Holds _ c.self.invariant.0 c.self.invariant.1);
    }

pub of-requires : goal.of-requires
of-requires c = subst IsSpelling (sym c.as_slice-in-loop-key.ensures.value) (subst AreSpellings (ap view c.in-Some.ensures.steps) c.loop-key.invariant.spelled).0
