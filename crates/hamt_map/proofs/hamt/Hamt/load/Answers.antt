use Rattle.std.proofs.Common.{Some, None, refl, sym, ap, subst, ◌∙◌}
use Rattle.std.specs.FinMap.{empty, insert, remove}
use Rattle.hamt_map.specs.Holds.{Holds}
use Rattle.hamt_map.specs.Kept.{IsJudged, IsKept, IsUnder}
use Rattle.hamt_map.specs.Stands.{Stands}
use Rattle.hamt_map.proofs.Over.{alone, got_above, got_under, if_ok_more, kept_of, none_got, none_over, on_err_any, on_err_more, on_ok_more, over_insert, over_none, remove_absent, whole_held}
use Rattle.hamt_map.proofs.Depths.{four_deeper}
use Rattle.hamt_map.proofs.hamt.Hamt.load.Goals as goal

pub returns-in_ok-root-in-None-clause-found : goal.returns-in_ok-root-in-None-clause-found
unfolding Stands
returns-in_ok-root-in-None-clause-found g c =
    let blocks = g.B.BlockSource.blocks c.args.base.now in
    let judged = subst (IsJudged blocks c.args.root.now) c.in-None.is c.in_ok-judge_tree.ensures.found in
    (judged.0, judged.1.walk, (empty, judged.0, c.empty.ensures, subst (λ root. IsKept blocks root judged.0) (sym c.in_ok-root-in-None.ensures) judged.1, none_over judged.0))

pub returns-in-Some-clause-found : goal.returns-in-Some-clause-found
unfolding Stands
returns-in-Some-clause-found g c =
    let judged = subst (IsJudged (g.B.BlockSource.blocks c.args.base.now) c.args.root.now) c.in-Some.is c.in_ok-judge_tree.ensures.found in
    (judged.0, judged.1, (judged.0, empty, judged.2, refl, sym (over_none judged.0 empty refl)))
