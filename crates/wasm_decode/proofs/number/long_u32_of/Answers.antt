use Rattle.std.proofs.Common.{arith}
use Rattle.wasm_decode.proofs.Numbers.{short_u32, form_u32, found_u32}
use Rattle.wasm_decode.proofs.number.long_u32_of.Goals as goal

pub returns-in-None : goal.returns-in-None
returns-in-None c = short_u32 c.args.bytes.now c.in-None.ensures.none

pub returns-then-byte-last_bound_of : goal.returns-then-byte-last_bound_of
returns-then-byte-last_bound_of c =
    form_u32 c.args.bytes.now c.in-Some.rest.now c.in-Some.groups c.in-Some.byte c.in-Some.ensures.found.0 c.in-Some.ensures.found.1 (omega (arith, c.last_bound_of.ensures, c.if-byte-last_bound_of.true))

pub returns-else-byte-last_bound_of : goal.returns-else-byte-last_bound_of
returns-else-byte-last_bound_of c =
    found_u32 c.args.bytes.now c.in-Some.rest.now c.in-Some.groups c.in-Some.byte c.from.result c.in-Some.ensures.found.0.0 c.in-Some.ensures.found.1 (omega (arith, c.last_bound_of.ensures, c.if-byte-last_bound_of.false)) c.from.ensures
