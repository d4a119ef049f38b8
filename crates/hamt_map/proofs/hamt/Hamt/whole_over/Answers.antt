use Rattle.std.proofs.Common.{Some, None, refl, sym, ap, subst, ◌++◌, ◌∙◌}
use Rattle.std.specs.Prelude.{IfOk}
use Rattle.std.specs.FinMap.{empty, insert, remove}
use Rattle.hamt_map.specs.Holds.{Holds}
use Rattle.hamt_map.specs.Kept.{IsJudged, IsKept, IsUnder}
use Rattle.hamt_map.specs.Stands.{Stands}
use Rattle.hamt_map.proofs.Over.{alone, got_above, got_under, if_ok_more, kept_of, none_got, none_over, on_err_any, on_err_more, on_ok_more, over_insert, over_none, remove_absent, whole_held}
use Rattle.hamt_map.proofs.hamt.Hamt.whole_over.Goals as goal

pub returns-in-Ok : goal.returns-in-Ok
returns-in-Ok g c = λ own kept holds walk.
    let before = subst (λ pairs. Holds pairs own) (sym (c.in_ok-put_leaves.ensures ∙ ap (λ xs. xs ++ c.args.self.now.pairs) c.new-leaves.ensures.items)) holds in
    let all = whole_held own kept _ c.put_leaves.new.leaves.items c.put_tree.new.leaves.items before walk c.in-Ok.ensures.found.put in
    subst (λ m. IfOk c.of_leaves.result (λ pairs. Holds pairs m)) all.3 (c.of_leaves.ensures all.0 (c.as_slice.ensures.value ∙ all.1) all.2)
