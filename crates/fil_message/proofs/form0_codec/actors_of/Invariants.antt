use Rattle.fil_message.specs.Form0Reading.{actor_of}
use Rattle.fil_message.proofs.ReadSteps.{SoFar}
use Rattle.fil_message.proofs.form0_codec.actors_of.Given as goal

abbrev pub invariant-loop-item : goal.invariant-loop-item
invariant-loop-item l = SoFar actor_of l.items l.item-index l.actors.items
