use Rattle.std.proofs.Common.{arith}
use Rattle.fil_base.proofs.Base32Text.{read_all, read_letter}
use Rattle.fil_base.proofs.base32.values_of.Goals as goal

pub returns-in_default-clause-fault : goal.returns-in_default-clause-fault
returns-in_default-clause-fault c =
    read_letter c.args.text.now c.loop-i.i c.requires (omega arith) c.loop-i.invariant.letters c.in_default.ensures

pub returns-clause-letters : goal.returns-clause-letters
returns-clause-letters c = read_all c.args.text.now c.loop-i.i (omega arith) c.loop-i.invariant.letters
