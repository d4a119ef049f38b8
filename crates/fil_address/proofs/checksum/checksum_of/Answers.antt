use Rattle.std.proofs.Common.{[], ◌∷◌, take, ap, ◌∙◌, arith}
use Rattle.blake2b_hash.proofs.DigestFacts.{take-digest}
use Rattle.fil_address.proofs.checksum.checksum_of.Goals as goal

pub returns : goal.returns
returns c =
    let address = c.args.protocol ∷ c.args.payload.now in
    let given = c.update-2.ensures 4 (c.args.protocol ∷ []) (c.update.ensures 4 [] c.new-hasher.ensures) in
    c.copy_from_slice.ensures.after ∙ (ap (take 4) (c.finish-digest.ensures 4 address given) ∙ take-digest 4 address (omega arith))
