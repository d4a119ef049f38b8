use Rattle.std.proofs.Common.{Some, None, refl, sym, ap, subst, ◌∙◌}
use Rattle.std.specs.FinMap.{empty, insert, remove}
use Rattle.hamt_map.specs.Holds.{Holds}
use Rattle.hamt_map.specs.Kept.{IsJudged, IsKept, IsUnder}
use Rattle.hamt_map.specs.Stands.{Stands}
use Rattle.hamt_map.proofs.Over.{alone, got_above, got_under, if_ok_more, kept_of, none_got, none_over, on_err_any, on_err_more, on_ok_more, over_insert, over_none, remove_absent, whole_held}
use Rattle.hamt_map.proofs.Depths.{four_deeper}
use Rattle.hamt_map.proofs.hamt.Hamt.replace_over.Goals as goal

pub set-requires : goal.set-requires
set-requires g c = record { plain = four_deeper 120 c.args.value.now c.requires.plain }

pub returns-in_err-set-clause-unchanged : goal.returns-in_err-set-clause-unchanged
unfolding Stands
returns-in_err-set-clause-unchanged g c = λ m s. on_err_any c.from_residual-in_err-set.result (s.0, s.1, subst (λ pairs. Holds pairs s.0) (sym c.in_err-set.ensures.unchanged) s.2, s.3, s.4)

pub returns-clause-after : goal.returns-clause-after
unfolding Stands
returns-clause-after g c = λ m s. (insert s.0 c.args.key.now c.args.value.now, s.1, c.in_ok-set.ensures.after s.0 s.2, s.3, ap (λ n. insert n c.args.key.now c.args.value.now) s.4 ∙ over_insert s.0 s.1 c.args.key.now c.args.value.now)
