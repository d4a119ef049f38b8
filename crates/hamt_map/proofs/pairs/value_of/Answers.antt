use Rattle.hamt_map.proofs.Depths.{four_deeper}
use Rattle.hamt_map.proofs.Held.{read_plain}
use Rattle.hamt_map.proofs.pairs.value_of.Goals as goal

pub returns-in-Ok-clause-plain : goal.returns-in-Ok-clause-plain
returns-in-Ok-clause-plain c = read_plain c.args.spelling.now c.in-Ok.value c.requires c.in-Ok.ensures.found.0 c.in-Ok.ensures.found.1

pub unreachable-requires : goal.unreachable-requires
unreachable-requires c =
    (rw c.in-Err-Fault.field-0-is at c.in-Err-Fault.ensures.only) c.requires.value (four_deeper 124 c.requires.value c.requires.plain) c.requires.same
