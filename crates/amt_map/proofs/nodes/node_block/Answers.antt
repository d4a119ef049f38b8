use Rattle.std.proofs.Common.{ℕ, List, ◌≡◌, ap, map, ◌∙◌}
use Rattle.std.proofs.lemmas.Result.{IfOk-weaker}
use Rattle.cid_core.specs.BlockParts.{block_of}
use Rattle.amt_map.specs.Node.{node_block}
use Rattle.amt_map.specs.NodeText.{text_at}
use Rattle.amt_map.proofs.NodeTexts.{text_is}
use Rattle.amt_map.proofs.nodes.node_block.Goals as goal

pub returns : goal.returns
returns c = λ ps same.
    let text = c.of.ensures ∙ c.in_ok-bytes.ensures.text ∙ ap (λ ss. text_at c.args.height (map {B = ℕ × List ℕ} (λ p. (p.0, p.1.now)) ss)) c.as_slice.ensures.value
    ∙ ap (text_at c.args.height) (c.in_ok-lent.ensures ∙ same) ∙ text_is c.args.height ps in
    IfOk-weaker c.of-2.result (λ block. block ≡ block_of 0x71 c.of.result) (λ block. block ≡ node_block c.args.height ps) (λ block is. is ∙ ap (block_of 0x71) text) c.of-2.ensures
