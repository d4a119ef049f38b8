use Rattle.std.proofs.Common.{[], ◌∷◌, ap, ◌∙◌}
use Rattle.dag_cbor.specs.declared.value.Value.TheVariants as v
use Rattle.fil_message.specs.Layout.{number_value}
use Rattle.fil_message.proofs.codec.value_of.Goals as goal

pub returns : goal.returns
returns c =
    ap v.List (c.from_vec.ensures ∙ (c.in_ok-items.ensures.items ∙ (λ k. c.number_value.ensures k ∷ (c.in_ok-to.ensures k ∷ (c.in_ok-from.ensures k ∷ (c.number_value-2.ensures k ∷ (c.in_ok-value.ensures k
    ∷ ((c.number_value-3.ensures ∙ ap number_value c.number.ensures) k ∷ (c.in_ok-cap.ensures k ∷ (c.in_ok-premium.ensures k ∷ (c.number_value-4.ensures k ∷ (v.Blob ((c.in_ok-params.ensures ∙ c.as_slice.ensures) k) ∷ []))))))))))))
