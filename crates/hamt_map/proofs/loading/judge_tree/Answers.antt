use Rattle.std.proofs.Common.{◌∙◌}
use Rattle.hamt_map.proofs.WalkSteps.{put_found, tree_kept}
use Rattle.hamt_map.proofs.loading.judge_tree.Goals as goal

pub returns-then-by_form-clause-found : goal.returns-then-by_form-clause-found
returns-then-by_form-clause-found g c = tree_kept _ c.args.root.now _ c.put_tree.new.leaves.items _ c.in_ok-by_form.ensures.found c.if-by_form.true

pub returns-clause-found : goal.returns-clause-found
returns-clause-found g c =
    put_found _ _ c.put_tree.new.leaves.items c.in_ok-pairs.pairs c.new-leaves.ensures.items c.in_ok-by_form.ensures.found.put (λ all same fit. c.in_ok-pairs.ensures all (c.as_slice.ensures.value ∙ same) fit)
