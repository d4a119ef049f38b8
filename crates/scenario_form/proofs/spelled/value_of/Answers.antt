use Rattle.std.proofs.Common.{sym}
use Rattle.scenario_form.proofs.PartTexts.{the_value_is}
use Rattle.scenario_form.specs.Spelled.{the_value}
use Rattle.scenario_form.proofs.spelled.value_of.Goals as goal

pub unreachable-requires : goal.unreachable-requires
unreachable-requires c = (rw c.in-Err-Fault.field-0-is at c.in-Err-Fault.ensures).only (the_value c.args.bytes.now) c.requires.part.plain c.requires.same

pub returns-in-Ok : goal.returns-in-Ok
returns-in-Ok c = sym (the_value_is c.args.bytes.now c.in-Ok.value c.in-Ok.ensures.found.0 c.in-Ok.ensures.found.1)
