use Rattle.std.proofs.Common.{ap, ◌∙◌, ◌&&◌, List, ℕ, Vec, Global}
use Rattle.amt_map.specs.Canonical.{has_numbers, is_node_cid}
use Rattle.amt_map.specs.Reading.{shown}
use Rattle.amt_map.proofs.CanonicalRoot.{root_at_once}
use Rattle.amt_map.proofs.judging.judge_root.Goals as goal

pub returns-then-canonical-clause-found : goal.returns-then-canonical-clause-found
returns-then-canonical-clause-found c = λ those read. (
  root_at_once c.args.block.now c.args.height c.args.count c.args.full c.has_root_form-canonical.result (shown c.args.pairs.items) those c.cid.result.now c.cid.ensures.value c.cid.ensures.block
      (c.has_root_form-canonical.ensures ∙ ap (λ (ps : List (ℕ × Vec ℕ Global)). (c.args.full && is_node_cid c.cid.result.now) && has_numbers c.args.height c.args.count (shown ps)) c.as_slice.ensures.value) c.if-canonical.true read,
  c.in_ok-map.ensures those read.are,
)
