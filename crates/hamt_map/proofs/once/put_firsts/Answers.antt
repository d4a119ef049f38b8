use Rattle.std.proofs.Common.{List, ℕ, ◌++◌, ap, map, subst, sym}
use Rattle.hamt_map.proofs.Held.{AreSpellings, AreSpellings-Holds}
use Rattle.hamt_map.proofs.once.put_firsts.Goals as goal

pub loop-key-init : goal.loop-key-init
loop-key-init c =
    let all = ap (map {B = List ℕ × List ℕ} (λ e. (e.0.now, e.1.now))) c.into_iter-key-iterator.ensures.into_iter_gives.0 in
    record {
      put = ap (λ xs. c.args.leaves.now.items ++ xs) all;
      spelled = subst AreSpellings (sym all) (AreSpellings-Holds _ c.requires.0 c.requires.1);
    }
