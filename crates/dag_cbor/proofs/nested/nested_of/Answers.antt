use Rattle.std.proofs.Common.{arith, ◌∙◌, refl}
use Rattle.std.proofs.lemmas.Result.{err_from_is_err_and}
use Rattle.dag_cbor.proofs.Stack.{starts, is_full, is_wanted, is_read, closes, no_key, fails, puts, opens_list, opens_map}
use Rattle.dag_cbor.proofs.Steps.{token_shorter, begun_shorter}
use Rattle.dag_cbor.proofs.nested.nested_of.Goals as goal

pub items-init : goal.items-init
items-init c = starts 127 _ c.args.outermost c.args.bytes.now c.new-around.ensures.items

pub returns-in-None : goal.returns-in-None
returns-in-None c =
    is_read 127 c.items.around.items c.items.inner c.items.rest.now _ (omega (arith, c.items.around.ok.0, c.in-None.ensures.cases.0)) (is_full _ _ c.is_full.ensures c.if-is_full.true) c.items.invariant
    ∙ rw c.into_value-value.ensures refl

pub items-preserved-then-is_full : goal.items-preserved-then-is_full
items-preserved-then-is_full c =
    closes 127 c.items.around.items c.pop.new.self.items c.in-Some.frame c.items.inner c.in_ok-inner-in-Some.inner c.items.rest.now _ c.in-Some.ensures.items (is_full _ _ c.is_full.ensures c.if-is_full.true)
    (rw c.into_value-value.ensures at c.in_ok-inner-in-Some.ensures) c.items.invariant

pub returns-in_err-frame : goal.returns-in_err-frame
returns-in_err-frame c =
    let p = err_from_is_err_and c.from_residual-in_err-frame.result c.from_residual-in_err-frame.ensures.1 in
    rw (p.1, p.2) (no_key c.in_err-frame.field-0.0 127 _ c.items.around.items c.items.inner c.items.rest.now _ (is_wanted _ _ c.is_full.ensures c.if-is_full.false) (omega (arith, c.len.ensures, c.items.around.ok.0)) c.in_err-frame.ensures c.items.invariant)

pub returns-in_err-token : goal.returns-in_err-token
returns-in_err-token c =
    let p = err_from_is_err_and c.from_residual-in_err-token.result c.from_residual-in_err-token.ensures.1 in
    rw (p.1, p.2) (fails c.in_err-token.field-0.0 127 _ c.items.around.items c.items.inner c.in_ok-frame.frame c.items.rest.now c.in_ok-frame.behind_key.now _ (is_wanted _ _ c.is_full.ensures c.if-is_full.false) (omega (arith, c.len.ensures, c.items.around.ok.0)) c.in_ok-frame.ensures c.in_err-token.ensures c.items.invariant)

pub items-smaller-in-Whole : goal.items-smaller-in-Whole
items-smaller-in-Whole c = omega (arith, token_shorter _ _ _ _ c.in_ok-token.ensures, begun_shorter _ _ _ _ _ c.in_ok-frame.ensures)

pub items-preserved-in-Whole : goal.items-preserved-in-Whole
items-preserved-in-Whole c =
    puts 127 _ c.items.around.items c.items.inner c.in_ok-frame.frame c.in_ok-token.token c.in-Whole.value c.in_ok-inner-in-Whole.inner c.items.rest.now c.in_ok-frame.behind_key.now c.in_ok-token.after.now _
    (is_wanted _ _ c.is_full.ensures c.if-is_full.false) (omega (arith, c.len.ensures, c.items.around.ok.0)) c.in_ok-frame.ensures c.in_ok-token.ensures c.in-Whole.is c.in_ok-inner-in-Whole.ensures c.items.invariant

pub items-smaller-in-List : goal.items-smaller-in-List
items-smaller-in-List c = omega (arith, token_shorter _ _ _ _ c.in_ok-token.ensures, begun_shorter _ _ _ _ _ c.in_ok-frame.ensures, c.in_ok-push-in-List.ensures.len)

pub items-preserved-in-List : goal.items-preserved-in-List
items-preserved-in-List c =
    opens_list 127 _ c.items.around.items c.push.new.self.items c.items.inner c.in_ok-frame.frame c.in_ok-token.token c.in-List.count c.in_ok-inner-in-List.inner c.items.rest.now c.in_ok-frame.behind_key.now c.in_ok-token.after.now _
    (is_wanted _ _ c.is_full.ensures c.if-is_full.false) (omega (arith, c.len.ensures, c.items.around.ok.0)) c.in_ok-frame.ensures c.in_ok-token.ensures c.in-List.is c.in_ok-push-in-List.ensures.items c.in_ok-inner-in-List.ensures c.items.invariant

pub items-smaller : goal.items-smaller
items-smaller c = omega (arith, token_shorter _ _ _ _ c.in_ok-token.ensures, begun_shorter _ _ _ _ _ c.in_ok-frame.ensures, c.in_ok-push-in-Map.ensures.len)

pub items-preserved : goal.items-preserved
items-preserved c =
    opens_map 127 _ c.items.around.items c.push-in-Map.new.self.items c.items.inner c.in_ok-frame.frame c.in_ok-token.token c.in-Map.count c.in_ok-inner-in-Map.inner c.items.rest.now c.in_ok-frame.behind_key.now c.in_ok-token.after.now _
    (is_wanted _ _ c.is_full.ensures c.if-is_full.false) (omega (arith, c.len.ensures, c.items.around.ok.0)) c.in_ok-frame.ensures c.in_ok-token.ensures c.in-Map.is c.in_ok-push-in-Map.ensures.items c.in_ok-inner-in-Map.ensures c.items.invariant
