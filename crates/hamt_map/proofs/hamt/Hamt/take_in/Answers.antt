use Rattle.std.proofs.Common.{Some, None, refl, sym, ap, subst, ◌++◌, ◌∙◌}
use Rattle.std.specs.Prelude.{IfOk}
use Rattle.std.specs.FinMap.{empty, insert, remove}
use Rattle.hamt_map.specs.Holds.{Holds}
use Rattle.hamt_map.specs.Kept.{IsJudged, IsKept, IsUnder}
use Rattle.hamt_map.specs.Stands.{Stands}
use Rattle.hamt_map.proofs.Over.{alone, got_above, got_under, if_ok_more, kept_of, none_got, none_over, on_err_any, on_err_more, on_ok_more, over_insert, over_none, remove_absent, whole_held}
use Rattle.hamt_map.proofs.hamt.Hamt.take_in.Goals as goal

pub returns-in-None-clause-pairs : goal.returns-in-None-clause-pairs
unfolding Stands
returns-in-None-clause-pairs g c = λ m s. subst (Holds c.args.self.now.pairs) (sym (alone s.0 s.1 m _ _ c.in-None.is s.3 s.4)) s.2
