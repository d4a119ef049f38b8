use Rattle.std.proofs.Common.{[]}
use Rattle.blake2b_hash.proofs.hasher.Hasher.new.Goals as goal

pub returns : goal.returns
returns c = record { asked = c.new.ensures; taken = c.new-2.ensures []; kept = c.new-3.ensures }
