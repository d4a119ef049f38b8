use Rattle.std.proofs.Common.{sym, ap, ◌∙◌, Some}
use Rattle.init_names.specs.Reading.{text_layer}
use Rattle.dag_cbor.specs.declared.value.Value.{out-Value}
use Rattle.dag_cbor.specs.declared.value.Value.TheVariants as v
use Rattle.init_names.proofs.StateParts.{text_plain}
use Rattle.init_names.proofs.fields.text_in.Goals as goal

pub returns-in-Text-clause-text : goal.returns-in-Text-clause-text
returns-in-Text-clause-text c = λ plain.
    text_plain 126 c.args.value.now c.as_slice.result.now (ap Some c.as_slice.ensures ∙ sym (ap (λ x. text_layer (out-Value x)) c.in-Text.is ∙ ap text_layer (v.outs-Text c.in-Text.bytes))) plain
