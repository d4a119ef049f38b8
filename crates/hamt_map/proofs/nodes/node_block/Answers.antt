use Rattle.std.proofs.Common.{◌≡◌, ap, map, subst, sym, ◌∙◌}
use Rattle.std.proofs.lemmas.Result.{IfOk-weaker}
use Rattle.std.specs.FinMap.{entries}
use Rattle.hamt_map.specs.Canonical.{map_of}
use Rattle.hamt_map.specs.HashOrder.{AreLent}
use Rattle.hamt_map.specs.Lent.{lent_of}
use Rattle.hamt_map.specs.Node.{node_block}
use Rattle.hamt_map.proofs.nodes.node_block.Goals as goal

pub returns : goal.returns
returns c = λ m held.
    let lent = c.in_ok-hashed.ensures.lent m held in
    IfOk-weaker c.put_under.result (λ block. block ≡ node_block c.args.below (entries (map_of lent.pairs))) (λ block. block ≡ node_block c.args.below (entries m))
    (λ block is. is ∙ ap (node_block c.args.below) lent.same) (c.put_under.ensures.block lent.pairs (subst (λ es. AreLent c.args.below (map lent_of es) lent.pairs) (sym c.as_slice.ensures.value) lent.are))
