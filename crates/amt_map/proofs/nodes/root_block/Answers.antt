use Rattle.std.proofs.Common.{ℕ, List, ◌≡◌, ap, map, ◌∙◌}
use Rattle.std.proofs.lemmas.Result.{IfOk-weaker}
use Rattle.std.specs.FinMap.{entries}
use Rattle.cid_core.specs.BlockParts.{block_of}
use Rattle.amt_map.specs.Node.{root_block}
use Rattle.amt_map.specs.NodeText.{root_text}
use Rattle.amt_map.proofs.NodeTexts.{root_block_is}
use Rattle.amt_map.proofs.nodes.root_block.Goals as goal

pub returns : goal.returns
returns c = λ m held.
    let text = c.of.ensures ∙ c.in_ok-bytes.ensures.text ∙ ap (λ ss. root_text (map {B = ℕ × List ℕ} (λ p. (p.0, p.1.now)) ss)) c.as_slice.ensures.value ∙ ap root_text c.in_ok-spelled.ensures.same in
    IfOk-weaker c.of-2.result (λ block. block ≡ block_of 0x71 c.of.result) (λ block. block ≡ root_block (entries m)) (λ block is. is ∙ ap (block_of 0x71) text ∙ root_block_is c.args.pairs.now m held) c.of-2.ensures
