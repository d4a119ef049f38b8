use Rattle.std.proofs.Common.{[], arith}
use Rattle.hamt_map.proofs.ReadParts.{parts_found, parts_no_blob, parts_no_list, parts_other}
use Rattle.hamt_map.proofs.node_form.node_parts.Goals as goal

pub returns-in_err-bits : goal.returns-in_err-bits
returns-in_err-bits c = λ value at.
    let two = c.in_ok-both.ensures 127 value [] at in
    rw c.from_residual-in_err-bits.ensures (parts_no_blob value two.0 c.in_ok-both.both.now [] two.1 two.2 c.in_err-bits.ensures.only)

pub returns-in_err-count : goal.returns-in_err-count
returns-in_err-count c = λ value at.
    let two = c.in_ok-both.ensures 127 value [] at in
    rw c.from_residual-in_err-count.ensures (parts_no_list value two.0 c.in_ok-both.both.now c.in_ok-bits.behind.now c.in_ok-bits.bits.now [] two.1 two.2 (omega arith) c.in_ok-bits.ensures.found c.in_err-count.ensures.only)

pub returns-then-is_field_of : goal.returns-then-is_field_of
returns-then-is_field_of c = λ value at.
    let two = c.in_ok-both.ensures 127 value [] at in
    parts_found value two.0 c.in_ok-both.both.now c.in_ok-bits.behind.now c.in_ok-bits.bits.now c.in_ok-count.pointers.now c.in_ok-count.count c.is_field_of.result two.1 two.2 (omega arith) c.in_ok-bits.ensures.found
    (omega arith) c.in_ok-count.ensures.found c.is_field_of.ensures c.if-is_field_of.true

pub returns-else-is_field_of : goal.returns-else-is_field_of
returns-else-is_field_of c = λ value at.
    let two = c.in_ok-both.ensures 127 value [] at in
    parts_other value two.0 c.in_ok-both.both.now c.in_ok-bits.behind.now c.in_ok-bits.bits.now c.in_ok-count.pointers.now c.in_ok-count.count c.is_field_of.result two.1 two.2 (omega arith) c.in_ok-bits.ensures.found
    (omega arith) c.in_ok-count.ensures.found c.is_field_of.ensures c.if-is_field_of.false
