use Rattle.std.proofs.Common.{sym, ◌∙◌}
use Rattle.amt_map.proofs.Heights.{no_height, tree_height}
use Rattle.amt_map.proofs.judging.last_height.Goals as goal

pub returns-in-None : goal.returns-in-None
returns-in-None c = no_height (λ p. (p.0, p.1.items)) c.args.pairs.now c.in-None.ensures.value

pub returns-in-Some : goal.returns-in-Some
returns-in-Some c = c.height_of_index.ensures.value ∙ sym (tree_height (λ p. (p.0, p.1.items)) c.args.pairs.now c.in-Some.pair.now c.requires c.in-Some.ensures.value)
