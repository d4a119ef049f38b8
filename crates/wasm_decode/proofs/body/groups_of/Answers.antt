use Rattle.std.proofs.Common.{◌≡◌, ◌∙◌, ◌-◌, List, length, ap, arith}
use Rattle.std.proofs.lemmas.Result.{err_from_is_err_and}
use Rattle.wasm_types.specs.declared.limits.TheConstants.{MOST_LOCALS}
use Rattle.wasm_types.specs.declared.val_type.ValType.{ValType}
use Rattle.wasm_decode.proofs.Locals.{groups_all, groups_more, groups_no_size, groups_no_type}
use Rattle.wasm_decode.proofs.body.groups_of.Goals as goal

pub returns-in_err-size : goal.returns-in_err-size
returns-in_err-size c =
    let p = err_from_is_err_and c.from_residual.result c.from_residual.ensures.1 in
    let room : c.room_for.result ≡ MOST_LOCALS - length c.loop-left.locals.items = c.room_for.ensures ∙ ap (λ (xs : List ValType). MOST_LOCALS - length xs) c.as_slice.ensures.value in
    rw (p.1, p.2) (groups_no_size c.loop-left.locals.items c.room_for.result c.loop-left.left c.loop-left.rest.now c.in_err-size.field-0.0 _ c.loop-left-test.true room c.in_err-size.ensures c.loop-left.invariant)

pub returns-in_err-kind : goal.returns-in_err-kind
returns-in_err-kind c =
    let p = err_from_is_err_and c.from_residual-in_err-kind.result c.from_residual-in_err-kind.ensures.1 in
    let room : c.room_for.result ≡ MOST_LOCALS - length c.loop-left.locals.items = c.room_for.ensures ∙ ap (λ (xs : List ValType). MOST_LOCALS - length xs) c.as_slice.ensures.value in
    rw (p.1, p.2) (groups_no_type c.loop-left.locals.items c.room_for.result c.loop-left.left c.in_ok-size.size c.loop-left.rest.now c.in_ok-size.behind_size.now c.in_err-kind.field-0.0 _ c.loop-left-test.true room c.in_ok-size.ensures c.in_err-kind.ensures c.loop-left.invariant)

pub loop-left-preserved : goal.loop-left-preserved
loop-left-preserved c =
    let room : c.room_for.result ≡ MOST_LOCALS - length c.loop-left.locals.items = c.room_for.ensures ∙ ap (λ (xs : List ValType). MOST_LOCALS - length xs) c.as_slice.ensures.value in
    groups_more c.loop-left.locals.items c.add_locals.new.locals.items c.room_for.result c.loop-left.left c.in_ok-size.size c.in_ok-kind.kind c.loop-left.rest.now c.in_ok-size.behind_size.now c.in_ok-kind.behind.now _ c.loop-left-test.true room c.in_ok-size.ensures c.in_ok-kind.ensures c.in_ok-add_locals.ensures c.loop-left.invariant

pub returns : goal.returns
returns c = groups_all c.loop-left.locals.items c.of.result c.loop-left.left c.loop-left.rest.now _ (omega (arith, c.loop-left-test.false)) c.of.ensures c.loop-left.invariant
