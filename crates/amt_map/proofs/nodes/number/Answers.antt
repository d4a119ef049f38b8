use Rattle.std.proofs.Common.{ℤ, ◌≡◌, ap, subst, sym, ◌∙◌, arith}
use Rattle.std.proofs.lemmas.Int.{to_z_pos}
use Rattle.std.proofs.lemmas.Result.{IfOk-weaker}
use Rattle.std.specs.Int.{w128}
use Rattle.dag_cbor.specs.Plain.{IsPlain}
use Rattle.dag_cbor.specs.Spelling.{head, spelled}
use Rattle.dag_cbor.specs.declared.value.Value.TheVariants as v
use Rattle.dag_cbor.proofs.Equations.{spelled-pos}
use Rattle.amt_map.proofs.Writing.{plain_number}
use Rattle.amt_map.proofs.nodes.number.Goals as goal

pub encode-requires : goal.encode-requires
encode-requires c = subst (λ (z : ℤ). IsPlain 128 (v.Int z)) (sym (to_z_pos w128 c.args.number (omega (arith, c.ranges.number.fits)))) (plain_number 127 c.args.number (omega (arith, c.ranges.number.fits)))

pub returns : goal.returns
returns c =
    IfOk-weaker c.encode.result _ (λ bytes. bytes ≡ head 0 c.args.number)
    (λ bytes is. is ∙ ap (λ (z : ℤ). spelled (v.Int z)) (to_z_pos w128 c.args.number (omega (arith, c.ranges.number.fits))) ∙ spelled-pos c.args.number) c.encode.ensures
