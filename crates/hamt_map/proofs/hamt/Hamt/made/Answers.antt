use Rattle.std.proofs.Common.{Some, None, refl, sym, ap, subst, ◌∙◌}
use Rattle.std.specs.FinMap.{empty, insert}
use Rattle.hamt_map.specs.Holds.{Holds}
use Rattle.hamt_map.specs.Kept.{over}
use Rattle.hamt_map.specs.Node.{hamt_nodes}
use Rattle.hamt_map.proofs.Omitting.{new_of_omitted}
use Rattle.hamt_map.specs.Stands.{Stands}
use Rattle.tree_blocks.specs.NewBlocks.{new_blocks}
use Rattle.hamt_map.proofs.Over.{alone, got_above, got_under, if_ok_more, kept_of, none_got, none_over, on_err_more, on_ok_more, over_insert, over_none, whole_held}
use Rattle.hamt_map.proofs.Depths.{four_deeper}
use Rattle.hamt_map.proofs.hamt.Hamt.made.Goals as goal

pub returns-in-None-clause-root : goal.returns-in-None-clause-root
unfolding Stands
returns-in-None-clause-root g c = λ m s. c.all_nodes.ensures.root m (subst (Holds c.args.self.now.pairs) (sym (alone s.0 s.1 m _ _ c.in-None.is s.3 s.4)) s.2)

pub returns-in-None-clause-nodes : goal.returns-in-None-clause-nodes
unfolding Stands
returns-in-None-clause-nodes g c = λ m s. if_ok_more c.all_nodes.result (λ r same. ap (new_blocks _) same) (c.all_nodes.ensures.nodes m (subst (Holds c.args.self.now.pairs) (sym (alone s.0 s.1 m _ _ c.in-None.is s.3 s.4)) s.2))

pub returns-in-Some-clause-nodes : goal.returns-in-Some-clause-nodes
unfolding Stands
returns-in-Some-clause-nodes g c = λ m s.
    let held = g.B.BlockSource.blocks c.args.base.now in
    if_ok_more c.nodes_over.result (λ r omits. new_of_omitted held r.1.items (hamt_nodes (over s.0 s.1)) omits ∙ ap (λ n. new_blocks held (hamt_nodes n)) (sym s.4))
    (c.nodes_over.ensures.nodes s.0 s.1 s.2 (kept_of s.1 c.args.self.now.root c.in-Some.root held c.in-Some.is s.3))
