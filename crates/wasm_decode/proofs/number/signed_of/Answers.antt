use Rattle.std.proofs.Common.{arith}
use Rattle.wasm_decode.proofs.Signed.{positive, negative, no_sign_found, short_signed, positive_found, negative_found, form_signed}
use Rattle.wasm_decode.proofs.number.signed_of.Goals as goal

pub returns-in-None-clause-found : goal.returns-in-None-clause-found
returns-in-None-clause-found c = short_signed c.args.most c.args.top c.args.bytes.now c.in-None.ensures.none

pub overflow_mul-result : goal.overflow_mul-result
overflow_mul-result c =
    let small = positive c.args.most c.args.top c.args.greatest c.in-Some.byte c.from.result c.args.bytes.now c.in-Some.groups c.requires.bits c.in-Some.ensures.found.0.0 (omega (arith, c.half_of-half.ensures, c.if-byte-half.true)) c.from.ensures in
    omega (arith, small.product, c.ranges.greatest.fits)

pub overflow_add-result : goal.overflow_add-result
overflow_add-result c =
    let small = positive c.args.most c.args.top c.args.greatest c.in-Some.byte c.from.result c.args.bytes.now c.in-Some.groups c.requires.bits c.in-Some.ensures.found.0.0 (omega (arith, c.half_of-half.ensures, c.if-byte-half.true)) c.from.ensures in
    omega (arith, small.sum, c.ranges.greatest.fits)

pub returns-then-byte-half-clause-found : goal.returns-then-byte-half-clause-found
returns-then-byte-half-clause-found c =
    positive_found c.args.most c.args.top c.in-Some.byte c.from.result c.args.bytes.now c.in-Some.rest.now c.in-Some.groups c.in-Some.ensures.found.0.0 c.in-Some.ensures.found.1 (omega (arith, c.half_of-half.ensures, c.if-byte-half.true)) c.from.ensures

pub returns-then-byte-half-clause-within : goal.returns-then-byte-half-clause-within
returns-then-byte-half-clause-within c =
    let small = positive c.args.most c.args.top c.args.greatest c.in-Some.byte c.from.result c.args.bytes.now c.in-Some.groups c.requires.bits c.in-Some.ensures.found.0.0 (omega (arith, c.half_of-half.ensures, c.if-byte-half.true)) c.from.ensures in
    small.sum

pub overflow_mul-below : goal.overflow_mul-below
overflow_mul-below c =
    let told = c.has_sign.ensures.0 c.if-has_sign.true in
    let lacks = negative c.args.most c.args.top c.args.greatest c.from-then-has_sign.result c.args.bytes.now c.in-Some.groups c.requires.bits c.in-Some.ensures.found.0.0 (omega (arith, told.0, c.from-then-has_sign.ensures)) (omega (arith, told.1, c.half_of-half.ensures, c.from-then-has_sign.ensures)) in
    omega (arith, lacks.product, c.ranges.greatest.fits)

pub overflow_sub-result : goal.overflow_sub-result
overflow_sub-result c =
    let told = c.has_sign.ensures.0 c.if-has_sign.true in
    let lacks = negative c.args.most c.args.top c.args.greatest c.from-then-has_sign.result c.args.bytes.now c.in-Some.groups c.requires.bits c.in-Some.ensures.found.0.0 (omega (arith, told.0, c.from-then-has_sign.ensures)) (omega (arith, told.1, c.half_of-half.ensures, c.from-then-has_sign.ensures)) in
    lacks.product

pub returns-then-has_sign-clause-found : goal.returns-then-has_sign-clause-found
returns-then-has_sign-clause-found c =
    let told = c.has_sign.ensures.0 c.if-has_sign.true in
    negative_found c.args.most c.args.top c.args.greatest c.in-Some.byte c.from-then-has_sign.result c.args.bytes.now c.in-Some.rest.now c.in-Some.groups c.requires.bits c.in-Some.ensures.found.0.0 c.in-Some.ensures.found.1
    (omega (arith, c.half_of-half.ensures, c.if-byte-half.false)) told.0 (omega (arith, told.1, c.half_of-half.ensures)) c.from-then-has_sign.ensures

pub returns-then-has_sign-clause-within : goal.returns-then-has_sign-clause-within
returns-then-has_sign-clause-within c =
    let told = c.has_sign.ensures.0 c.if-has_sign.true in
    let lacks = negative c.args.most c.args.top c.args.greatest c.from-then-has_sign.result c.args.bytes.now c.in-Some.groups c.requires.bits c.in-Some.ensures.found.0.0 (omega (arith, told.0, c.from-then-has_sign.ensures)) (omega (arith, told.1, c.half_of-half.ensures, c.from-then-has_sign.ensures)) in
    omega (arith, lacks.product, lacks.sum)

pub returns-else-has_sign-clause-found : goal.returns-else-has_sign-clause-found
returns-else-has_sign-clause-found c =
    form_signed c.args.most c.args.top c.in-Some.byte c.args.bytes.now c.in-Some.rest.now c.in-Some.groups c.in-Some.ensures.found.0 c.in-Some.ensures.found.1
    (omega (arith, c.half_of-half.ensures, c.if-byte-half.false))
    (λ small. omega (arith, no_sign_found c.has_sign.result c.in-Some.byte c.half_of-half.result c.has_sign.ensures c.if-has_sign.false small, c.half_of-half.ensures))
