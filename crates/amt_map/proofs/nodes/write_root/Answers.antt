use Rattle.std.proofs.Common.{ℕ, List, ◌∷◌, [], ◌++◌, ap, map, sym, ◌∙◌}
use Rattle.std.proofs.lemmas.List.{length-map}
use Rattle.dag_cbor.specs.Spelling.{head}
use Rattle.amt_map.specs.NodeText.{Spellings}
use Rattle.amt_map.proofs.Writing.{root_bytes}
use Rattle.amt_map.proofs.nodes.write_root.Goals as goal

pub returns-clause-text : goal.returns-clause-text
returns-clause-text c =
    let ss : Spellings = map (λ p. (p.0, p.1.now)) c.args.pairs.now in
    let height : ℕ = c.height_of-height.result in
    c.in_ok-extend_from_slice-3.ensures.items ∙ ap (λ (xs : List ℕ). xs ++ c.as_slice-2.result.now) (
    c.in_ok-extend_from_slice-2.ensures.items ∙ ap (λ (xs : List ℕ). xs ++ c.as_slice.result.now) (
    c.in_ok-extend_from_slice.ensures.items ∙ ap (λ (xs : List ℕ). xs ++ 0x83 ∷ height ∷ []) c.in_ok-bytes.ensures.items))
    ∙ root_bytes height ss c.as_slice.result.now c.as_slice-2.result.now c.height_of-height.ensures.bound c.height_of-height.ensures.value
    (c.as_slice.ensures ∙ c.in_ok-count.ensures ∙ ap (λ (n : ℕ). head 0 n) (sym (length-map {B = ℕ × List ℕ} c.args.pairs.now (λ p. (p.0, p.1.now)))))
    (c.as_slice-2.ensures.value ∙ c.in_ok-node.ensures.text)
