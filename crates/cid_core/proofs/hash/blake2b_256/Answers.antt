use Rattle.std.proofs.Common.{◌∙◌}
use Rattle.cid_core.proofs.Digests.{front_of_digest, length-front}
use Rattle.cid_core.proofs.hash.blake2b_256.Goals as goal

pub slice_bounds-copy_from_slice-end-3 : goal.slice_bounds-copy_from_slice-end-3
slice_bounds-copy_from_slice-end-3 c = length-front _ c.args.bytes.now c.digest.ensures

pub copy_from_slice-requires : goal.copy_from_slice-requires
copy_from_slice-requires c = length-front _ c.args.bytes.now c.digest.ensures

pub returns : goal.returns
returns c = c.copy_from_slice.ensures.after ∙ front_of_digest _ c.args.bytes.now c.digest.ensures
