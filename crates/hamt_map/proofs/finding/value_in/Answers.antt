use Rattle.std.proofs.Common.{sym, ◌∙◌}
use Rattle.hamt_map.proofs.Depths.{four_deeper}
use Rattle.hamt_map.proofs.Held.{same_value}
use Rattle.hamt_map.proofs.finding.value_in.Goals as goal

pub returns-in-Ok : goal.returns-in-Ok
returns-in-Ok c = λ there plain is. same_value 128 c.args.spelling.now c.in-Ok.value there c.in-Ok.ensures.found.0 c.in-Ok.ensures.found.1 (four_deeper 124 there plain) is
