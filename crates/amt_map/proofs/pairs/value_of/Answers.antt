use Rattle.amt_map.proofs.Depths.{three_deeper}
use Rattle.amt_map.proofs.Held.{read_plain}
use Rattle.amt_map.proofs.pairs.value_of.Goals as goal

pub returns-in-Ok-clause-plain : goal.returns-in-Ok-clause-plain
returns-in-Ok-clause-plain c = read_plain c.args.spelling.now c.in-Ok.value c.requires c.in-Ok.ensures.found.0 c.in-Ok.ensures.found.1

pub unreachable-requires : goal.unreachable-requires
unreachable-requires c =
    (rw c.in-Err-Fault.field-0-is at c.in-Err-Fault.ensures.only) c.requires.value (three_deeper 125 c.requires.value c.requires.plain) c.requires.same
