use Rattle.std.proofs.Common.{arith, refl, ◌%◌}
use Rattle.blake2b_hash.specs.declared.tables.TheConstants.{SIGMA}
use Rattle.blake2b_hash.proofs.ScheduleLemmas.{place_low}
use Rattle.blake2b_hash.proofs.compression.scheduled.Goals as goal

pub offset_bounds-m-i : goal.offset_bounds-m-i
offset_bounds-m-i c = let low = place_low SIGMA (c.args.i % 10) c.args.k refl in omega arith

pub bounds-m-i : goal.bounds-m-i
bounds-m-i c = place_low SIGMA (c.args.i % 10) c.args.k refl
