use Rattle.std.proofs.Common.{◌≡◌, refl, sym, ap, subst, ◌∙◌, get_or}
use Rattle.state_tree.specs.ActorPairs.{IfPair}
use Rattle.state_tree.proofs.PairTests.{one_is_no_pair, pairs_more}
use Rattle.state_tree.proofs.pairs.are_actors.Goals as goal

pub returns-then-not-is_actor : goal.returns-then-not-is_actor
returns-then-not-is_actor c =
    one_is_no_pair c.args.pairs.now c.loop-pair.pair-index c.pair-item.result c.is_actor.result c.loop-pair-test.true c.pair-item.is c.is_actor.ensures c.if-not-is_actor.true

pub loop-pair-preserved : goal.loop-pair-preserved
loop-pair-preserved c =
    pairs_more c.args.pairs.now c.loop-pair.pair-index c.pair-item.result c.is_actor.result c.loop-pair-test.true c.pair-item.is c.is_actor.ensures c.if-not-is_actor.false c.loop-pair.invariant
