use Rattle.std.proofs.Common.{◌++◌}
use Rattle.dag_cbor.specs.Spelling.{spelled}
use Rattle.amt_map.proofs.OneValue.{one_of}
use Rattle.amt_map.proofs.ThreeItems.{three_found, three_items}
use Rattle.amt_map.proofs.value_bytes.three_in.Goals as goal

pub split_front-requires : goal.split_front-requires
split_front-requires c =
    let three = three_items c.in_ok-list.list.now c.items_of-count.result.1.now c.items_of-count.result.0 c.in_ok-list.ensures.one c.items_of-count.ensures.count c.items_of-count.ensures.items c.if-count-eq3.true in
    record { value = three.x; rest = spelled three.y ++ spelled three.z; plain = three.plain_x; same = three.bytes_are }

pub split_front-requires-then-count-eq3 : goal.split_front-requires-then-count-eq3
split_front-requires-then-count-eq3 c =
    let three = three_items c.in_ok-list.list.now c.items_of-count.result.1.now c.items_of-count.result.0 c.in_ok-list.ensures.one c.items_of-count.ensures.count c.items_of-count.ensures.items c.if-count-eq3.true in
    let first = c.split_front.ensures three.x (spelled three.y ++ spelled three.z) three.plain_x three.bytes_are in
    record { value = three.y; rest = spelled three.z; plain = three.plain_y; same = first.1 }

pub returns-then-count-eq3-clause-three : goal.returns-then-count-eq3-clause-three
returns-then-count-eq3-clause-three c =
    let three = three_items c.in_ok-list.list.now c.items_of-count.result.1.now c.items_of-count.result.0 c.in_ok-list.ensures.one c.items_of-count.ensures.count c.items_of-count.ensures.items c.if-count-eq3.true in
    let first = c.split_front.ensures three.x (spelled three.y ++ spelled three.z) three.plain_x three.bytes_are in
    let second = c.split_front-then-count-eq3.ensures three.y (spelled three.z) three.plain_y first.1 in
    three_found c.args.value.now c.in_ok-list.list.now c.items_of-count.result.1.now _ _ _ c.in_ok-list.ensures.items three first.0 second.0 second.1

pub returns-then-count-eq3-clause-ones : goal.returns-then-count-eq3-clause-ones
returns-then-count-eq3-clause-ones c =
    let three = three_items c.in_ok-list.list.now c.items_of-count.result.1.now c.items_of-count.result.0 c.in_ok-list.ensures.one c.items_of-count.ensures.count c.items_of-count.ensures.items c.if-count-eq3.true in
    let first = c.split_front.ensures three.x (spelled three.y ++ spelled three.z) three.plain_x three.bytes_are in
    let second = c.split_front-then-count-eq3.ensures three.y (spelled three.z) three.plain_y first.1 in
    (one_of _ three.x three.plain_x first.0, one_of _ three.y three.plain_y second.0, one_of _ three.z three.plain_z second.1)
