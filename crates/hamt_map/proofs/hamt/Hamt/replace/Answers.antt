use Rattle.std.proofs.Common.{Some, None, refl, sym, ap, subst, ◌∙◌}
use Rattle.std.specs.FinMap.{empty, insert, remove}
use Rattle.hamt_map.specs.Holds.{Holds}
use Rattle.hamt_map.specs.Kept.{IsJudged, IsKept, IsUnder}
use Rattle.hamt_map.specs.Stands.{Stands}
use Rattle.hamt_map.proofs.Over.{alone, got_above, got_under, if_ok_more, kept_of, none_got, none_over, on_err_any, on_err_more, on_ok_more, over_insert, over_none, remove_absent, whole_held}
use Rattle.hamt_map.proofs.Depths.{four_deeper}
use Rattle.hamt_map.proofs.hamt.Hamt.replace.Goals as goal

pub insert-requires : goal.insert-requires
insert-requires g c = record { plain = four_deeper 120 c.args.value.now c.requires.plain }

pub returns-in-None-clause-old : goal.returns-in-None-clause-old
unfolding Stands
returns-in-None-clause-old g c = λ m s. c.insert.ensures.old m (subst (Holds c.args.self.now.pairs) (sym (alone s.0 s.1 m _ _ c.in-None.is s.3 s.4)) s.2)

pub returns-in-None-clause-after : goal.returns-in-None-clause-after
unfolding Stands
returns-in-None-clause-after g c = λ m s. on_ok_more c.insert.result (λ holds. (insert s.0 c.args.key.now c.args.value.now, s.1, holds, s.3, ap (λ n. insert n c.args.key.now c.args.value.now) s.4 ∙ over_insert s.0 s.1 c.args.key.now c.args.value.now)) (c.insert.ensures.after s.0 s.2)

pub returns-in-None-clause-unchanged : goal.returns-in-None-clause-unchanged
unfolding Stands
returns-in-None-clause-unchanged g c = λ m s. on_err_more c.insert.result (λ same. (s.0, s.1, subst (λ pairs. Holds pairs s.0) (sym same) s.2, s.3, s.4)) c.insert.ensures.unchanged
