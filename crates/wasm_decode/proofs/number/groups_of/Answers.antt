use Rattle.std.proofs.Common.{arith}
use Rattle.wasm_decode.proofs.Numbers.{more_groups}
use Rattle.wasm_decode.proofs.number.groups_of.Goals as goal

pub loop-groups-preserved : goal.loop-groups-preserved
loop-groups-preserved c =
    more_groups c.args.most c.args.bytes.now c.loop-groups.groups c.from.result c.loop-groups.invariant c.from.ensures c.loop-groups-test.true c.if-groups-bytes.true c.if-bytes-groups-ge128.true (omega (arith, c.type_inv.bytes c.loop-groups.groups.count))
