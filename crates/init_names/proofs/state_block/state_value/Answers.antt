use Rattle.std.proofs.Common.{List, ◌∷◌, [], subst, sym, ◌∙◌}
use Rattle.dag_cbor.specs.declared.value.Value.{Value}
use Rattle.dag_cbor.specs.declared.value.Value.TheVariants as v
use Rattle.dag_cbor.specs.Plain.{IsPlain}
use Rattle.init_names.proofs.StateParts.{plain_parts}
use Rattle.init_names.proofs.state_block.state_value.Goals as goal

pub returns-clause-plain : goal.returns-clause-plain
returns-clause-plain c =
    let items = c.from_vec.ensures ∙ c.in_ok-parts.ensures.items ∙ (λ i. v.Link c.args.names ∷ c.value_of-next.ensures.value i ∷ v.Text (c.in_ok-network.ensures i) ∷ []) in
    subst (λ (xs : List Value). IsPlain 128 (v.List xs)) (sym items) (plain_parts c.args.names c.args.next c.args.network.now c.version.ensures.cid c.value_of-next.ensures.small c.requires)
