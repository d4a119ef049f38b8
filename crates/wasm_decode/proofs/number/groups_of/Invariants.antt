use Rattle.std.proofs.Common.{◌-◌}
use Rattle.wasm_decode.specs.Groups.{AreGroups}
use Rattle.wasm_decode.proofs.number.groups_of.Given as goal

abbrev pub invariant-loop-groups : goal.invariant-loop-groups
invariant-loop-groups l = AreGroups l.most l.bytes l.groups

abbrev pub decreases-loop-groups : goal.decreases-loop-groups
decreases-loop-groups l = l.most - l.groups.count
