use Rattle.std.proofs.Common.{◌≡◌, map, take}
use Rattle.scenario_form.proofs.PartTexts.{value}
use Rattle.scenario_form.proofs.spelled.values_of.Given as goal

abbrev pub invariant-loop-bytes : goal.invariant-loop-bytes
invariant-loop-bytes l = l.values.items ≡ map value (take l.bytes-index l.list)
