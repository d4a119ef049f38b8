use Rattle.std.proofs.Common.{sym, ◌∙◌, arith}
use Rattle.std.proofs.lemmas.List.{append-nil}
use Rattle.hamt_map.proofs.NodeForm.{node_of_value, no_node}
use Rattle.hamt_map.proofs.node_form.node_in.Goals as goal

pub returns-then-is_value : goal.returns-then-is_value
returns-then-is_value c =
    let whole = c.is_value.ensures.found c.if-is_value.true in
    node_of_value c.args.below c.args.bytes.now whole.0 c.node_of.result whole.1 whole.2 (c.node_of.ensures whole.0 (record { plain = whole.1; parts = whole.2 ∙ sym (append-nil _) }))

pub returns-else-is_value : goal.returns-else-is_value
returns-else-is_value c = no_node c.args.below c.args.bytes.now (λ i. omega (arith, c.type_inv.bytes i)) (c.is_value.ensures.only c.if-is_value.false)
