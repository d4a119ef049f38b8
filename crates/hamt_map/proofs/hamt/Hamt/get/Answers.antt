use Rattle.std.proofs.Common.{Some, None, refl, sym, ap, subst, ◌∙◌}
use Rattle.std.specs.FinMap.{empty, insert}
use Rattle.hamt_map.specs.Holds.{Holds}
use Rattle.hamt_map.specs.Kept.{IsJudged, IsKept, IsUnder}
use Rattle.hamt_map.specs.Stands.{Stands}
use Rattle.hamt_map.proofs.Over.{alone, got_above, got_under, if_ok_more, kept_of, none_got, none_over, on_err_more, on_ok_more, over_insert, over_none, whole_held}
use Rattle.hamt_map.proofs.Depths.{four_deeper}
use Rattle.hamt_map.proofs.hamt.Hamt.get.Goals as goal

pub returns-in-Some : goal.returns-in-Some
unfolding Stands
returns-in-Some g c = λ m s. got_above s.0 s.1 m c.args.key.now c.in_ok-value.field-0 c.in-Some.value s.4 (c.in_ok-value.ensures s.0 s.2) c.in-Some.is

pub returns-in-None : goal.returns-in-None
unfolding Stands
returns-in-None g c = λ m s. if_ok_more c.get_under.result (λ under below. got_under s.0 s.1 m c.args.key.now c.in_ok-value.field-0 under s.4 (c.in_ok-value.ensures s.0 s.2) c.in-None.is below) (c.get_under.ensures s.1 s.3)
