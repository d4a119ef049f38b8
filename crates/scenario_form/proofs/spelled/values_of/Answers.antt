use Rattle.std.proofs.Common.{arith}
use Rattle.scenario_form.proofs.PartTexts.{part_text_at, values_end}
use Rattle.scenario_form.proofs.spelled.values_of.Goals as goal

pub value_of-requires : goal.value_of-requires
value_of-requires c = part_text_at c.args.list.now c.loop-bytes.bytes-index _ c.requires (omega arith)

pub returns : goal.returns
returns c = values_end c.args.list.now c.loop-bytes.bytes-index c.loop-bytes.values.items (omega arith) c.loop-bytes.invariant
