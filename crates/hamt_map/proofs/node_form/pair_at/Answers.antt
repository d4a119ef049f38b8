use Rattle.std.proofs.Common.{arith}
use Rattle.hamt_map.proofs.ReadParts.{pair_found, pair_no_blob, pair_value_there}
use Rattle.hamt_map.proofs.node_form.pair_at.Goals as goal

pub returns-in_err-key : goal.returns-in_err-key
returns-in_err-key c = λ value rest at.
    let two = c.in_ok-both.ensures 124 value rest at in
    rw c.from_residual-in_err-key.ensures (pair_no_blob value two.0 c.in_ok-both.both.now rest two.1 two.2 c.in_err-key.ensures.only)

pub returns-in_err-spelling : goal.returns-in_err-spelling
returns-in_err-spelling c = λ value rest at.
    let two = c.in_ok-both.ensures 124 value rest at in
    pair_value_there two.0 c.in_ok-both.both.now c.in_ok-key.behind.now c.in_ok-key.key.now rest two.2 (omega arith) c.in_ok-key.ensures.found c.in_err-spelling.ensures.only

pub returns : goal.returns
returns c = λ value rest at.
    let two = c.in_ok-both.ensures 124 value rest at in
    let item = c.in_ok-spelling.ensures.found in
    pair_found value two.0 c.in_ok-both.both.now c.in_ok-key.behind.now c.in_ok-key.key.now c.in_ok-spelling.spelling.now c.in_ok-spelling.rest.now rest c.of.result two.1 two.2 (omega arith) c.in_ok-key.ensures.found
    item.0 item.1 item.2 item.3 c.of.ensures
