use Rattle.std.proofs.Common.{◌≡◌, map, take}
use Rattle.scenario_form.specs.Outlines.{emptied}
use Rattle.scenario_form.proofs.outline.emptied_blocks.Given as goal

abbrev pub invariant-loop-block : goal.invariant-loop-block
invariant-loop-block l = l.bare.items ≡ map emptied (take l.block-index l.blocks)
