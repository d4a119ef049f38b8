use Rattle.std.proofs.Common.{Some, None, refl, sym, ap, subst, ◌∙◌}
use Rattle.std.specs.FinMap.{empty, insert}
use Rattle.hamt_map.specs.Holds.{Holds}
use Rattle.hamt_map.specs.Kept.{IsJudged, IsKept, IsUnder}
use Rattle.hamt_map.specs.Stands.{Stands}
use Rattle.hamt_map.proofs.Over.{alone, got_above, got_under, if_ok_more, kept_of, none_got, none_over, on_err_more, on_ok_more, over_insert, over_none, whole_held}
use Rattle.hamt_map.proofs.Depths.{four_deeper}
use Rattle.hamt_map.proofs.hamt.Hamt.empty.Goals as goal

pub returns : goal.returns
unfolding Stands
returns c = λ blocks. (empty, empty, c.empty.ensures, refl, none_over empty)
