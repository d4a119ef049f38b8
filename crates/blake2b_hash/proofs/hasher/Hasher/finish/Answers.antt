use Rattle.std.proofs.Common.{arith, refl, ◌∙◌}
use Rattle.blake2b_hash.specs.Blake.{blake, before_last}
use Rattle.blake2b_hash.proofs.ChainLemmas.{length-kept}
use Rattle.blake2b_hash.proofs.hasher.Hasher.finish.Goals as goal

pub returns : goal.returns
unfolding blake
returns c = λ len given stands.
    let counted = length-kept given c.args.self.block stands.kept in
    let last = c.last.ensures len (before_last given) given stands.taken (omega arith) in
    c.digest_of.ensures ∙ rw (last, c.padded.ensures, stands.kept, stands.asked) refl
