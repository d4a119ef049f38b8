use Rattle.std.proofs.Common.{Some, None, refl, sym, ap, subst, ◌∙◌}
use Rattle.std.specs.FinMap.{empty, insert}
use Rattle.hamt_map.specs.Holds.{Holds}
use Rattle.hamt_map.specs.Kept.{IsJudged, IsKept, IsUnder}
use Rattle.hamt_map.specs.Stands.{Stands}
use Rattle.hamt_map.proofs.Over.{alone, got_above, got_under, if_ok_more, kept_of, none_got, none_over, on_err_more, on_ok_more, over_insert, over_none, whole_held}
use Rattle.hamt_map.proofs.Depths.{four_deeper}
use Rattle.hamt_map.proofs.hamt.Hamt.put.Goals as goal

pub set-requires : goal.set-requires
set-requires c = record { plain = four_deeper 120 c.args.value c.requires.plain }

pub returns-clause-after : goal.returns-clause-after
unfolding Stands
returns-clause-after c = λ blocks m s. on_ok_more c.set.result (λ holds. (insert s.0 c.args.key.now c.args.value, s.1, holds, s.3, ap (λ n. insert n c.args.key.now c.args.value) s.4 ∙ over_insert s.0 s.1 c.args.key.now c.args.value)) (c.set.ensures.after s.0 s.2)

pub returns-clause-unchanged : goal.returns-clause-unchanged
unfolding Stands
returns-clause-unchanged c = λ blocks m s. on_err_more c.set.result (λ same. (s.0, s.1, subst (λ pairs. Holds pairs s.0) (sym same) s.2, s.3, s.4)) c.set.ensures.unchanged
