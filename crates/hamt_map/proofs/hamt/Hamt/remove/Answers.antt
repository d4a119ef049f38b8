use Rattle.std.proofs.Common.{Some, None, refl, sym, ap, subst, ◌++◌, ◌∙◌}
use Rattle.std.specs.Prelude.{IfOk}
use Rattle.std.specs.FinMap.{empty, insert, remove}
use Rattle.hamt_map.specs.Holds.{Holds}
use Rattle.hamt_map.specs.Kept.{IsJudged, IsKept, IsUnder}
use Rattle.hamt_map.specs.Stands.{Stands}
use Rattle.hamt_map.proofs.Over.{alone, got_above, got_under, if_ok_more, kept_of, none_got, none_over, on_err_any, on_err_more, on_ok_more, over_insert, over_none, remove_absent, whole_held}
use Rattle.hamt_map.proofs.hamt.Hamt.remove.Goals as goal

pub returns-in-None-clause-after : goal.returns-in-None-clause-after
returns-in-None-clause-after g c = λ m s.
    subst (Stands c.args.self.now (g.B.BlockSource.blocks c.args.base.now)) (sym (remove_absent m c.args.key.now (sym (c.in_ok-old.ensures m s) ∙ c.in-None.is))) s
