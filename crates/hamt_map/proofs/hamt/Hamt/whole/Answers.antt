use Rattle.std.proofs.Common.{Some, None, refl, sym, ap, subst, ◌++◌, ◌∙◌}
use Rattle.std.specs.Prelude.{IfOk}
use Rattle.std.specs.FinMap.{empty, insert, remove}
use Rattle.hamt_map.specs.Holds.{Holds}
use Rattle.hamt_map.specs.Kept.{IsJudged, IsKept, IsUnder}
use Rattle.hamt_map.specs.Stands.{Stands}
use Rattle.hamt_map.proofs.Over.{alone, got_above, got_under, if_ok_more, kept_of, none_got, none_over, on_err_any, on_err_more, on_ok_more, over_insert, over_none, remove_absent, whole_held}
use Rattle.hamt_map.proofs.hamt.Hamt.whole.Goals as goal

pub returns-in-None : goal.returns-in-None
unfolding Stands
returns-in-None g c = λ m s.
    if_ok_more c.copy.result (λ pairs same. subst (λ ps. Holds ps m) (sym same) (subst (Holds c.args.self.now.pairs) (sym (alone s.0 s.1 m _ _ c.in-None.is s.3 s.4)) s.2)) c.copy.ensures
