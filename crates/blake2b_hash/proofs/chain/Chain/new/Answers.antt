use Rattle.std.proofs.Common.{refl}
use Rattle.blake2b_hash.specs.Blake.{state_after}
use Rattle.blake2b_hash.proofs.chain.Chain.new.Goals as goal

pub returns : goal.returns
unfolding state_after
returns c = λ message. record { state = refl; counter = refl }
