use Rattle.std.proofs.Common.{ap, subst, ◌∙◌}
use Rattle.std.specs.Prelude.{is_some}
use Rattle.hamt_map.specs.Pairs.{Pairs}
use Rattle.hamt_map.specs.Stands.{Stands}
use Rattle.tree_blocks.specs.Forms.{for_each}
use Rattle.init_names.specs.Reading.{pair_in}
use Rattle.init_names.proofs.Loading.{names_found}
use Rattle.init_names.proofs.names_tree.names_under.Goals as goal

pub returns-then-are_names-clause-found : goal.returns-then-are_names-clause-found
returns-then-are_names-clause-found g c =
    let blocks = g.B.BlockSource.blocks c.args.base.now in
    let tree = c.in_ok-tree.ensures.found in
    let are = c.are_names.ensures ∙ ap (λ (pairs : Pairs). is_some (for_each pair_in pairs)) (c.as_slice.ensures ∙ c.in_ok-pairs.ensures tree.0 tree.2) in
    let names = names_found blocks c.args.root.now tree.0 c.are_names.result tree.1 are c.if-are_names.true in
    (names.0, names.1, names.2, subst (Stands c.in_ok-tree.tree blocks) names.3 tree.2)
