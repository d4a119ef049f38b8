use Rattle.std.proofs.Common.{Some, None, refl, sym, ap, subst, ◌++◌, ◌∙◌}
use Rattle.std.specs.Prelude.{IfOk}
use Rattle.std.specs.FinMap.{empty, insert, remove}
use Rattle.hamt_map.specs.Holds.{Holds}
use Rattle.hamt_map.specs.Kept.{IsJudged, IsKept, IsUnder}
use Rattle.hamt_map.specs.Stands.{Stands}
use Rattle.hamt_map.proofs.Over.{alone, got_above, got_under, if_ok_more, kept_of, none_got, none_over, on_err_any, on_err_more, on_ok_more, over_insert, over_none, remove_absent, whole_held}
use Rattle.hamt_map.proofs.hamt.Hamt.forget.Goals as goal

pub returns-in_err-take_in-clause-unchanged : goal.returns-in_err-take_in-clause-unchanged
returns-in_err-take_in-clause-unchanged g c = λ m s. on_err_any c.from_residual.result (subst (λ tree. Stands tree (g.B.BlockSource.blocks c.args.base.now) m) (sym c.in_err-take_in.ensures.unchanged) s)

pub returns-clause-after : goal.returns-clause-after
unfolding Stands
returns-clause-after g c = λ m s.
    let gone = remove m c.args.key.now in
    (gone, empty, c.remove.ensures m (c.in_ok-take_in.ensures.pairs m s), subst (λ root. IsUnder (g.B.BlockSource.blocks c.args.base.now) root empty) (sym c.in_ok-take_in.ensures.root) refl, sym (over_none gone empty refl))
