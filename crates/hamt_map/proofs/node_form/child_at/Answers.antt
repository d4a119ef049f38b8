use Rattle.std.proofs.Common.{arith}
use Rattle.hamt_map.proofs.ReadParts.{child_found, child_none, item_is}
use Rattle.hamt_map.proofs.node_form.child_at.Goals as goal

pub returns-in_default-2 : goal.returns-in_default-2
returns-in_default-2 c = λ value rest at no_items.
    let item = c.in-Some.ensures.found in
    let none = rw c.in_default-2.is at (c.in_ok-cid.ensures item.0 item.1 item.2) in
    child_none c.args.below item.0 value c.args.bytes.now c.in-Some.rest.now rest (omega arith) (item_is 126 item.0 c.args.bytes.now c.in-Some.item.now c.in-Some.rest.now item.1 item.2 item.3) none at no_items

pub returns : goal.returns
returns c = λ value rest at no_items.
    let item = c.in-Some.ensures.found in
    let link = rw c.in-Some-2.is at (c.in_ok-cid.ensures item.0 item.1 item.2) in
    child_found c.args.below item.0 value c.args.bytes.now c.in-Some.rest.now rest c.in-Some-2.cid (omega arith) (item_is 126 item.0 c.args.bytes.now c.in-Some.item.now c.in-Some.rest.now item.1 item.2 item.3) link at no_items
