use Rattle.std.proofs.lemmas.Result.{err_from_is_err_and}
use Rattle.dag_cbor.proofs.Stack.{no_item, whole_item, list_item, map_item}
use Rattle.dag_cbor.proofs.decoding.item_of.Goals as goal

pub returns-in_err-token : goal.returns-in_err-token
returns-in_err-token c =
    let p = err_from_is_err_and c.from_residual.result c.from_residual.ensures.1 in
    rw (p.1, p.2) (no_item c.in_err-token.field-0.0 128 c.args.bytes.now c.in_err-token.ensures)

pub returns-in-Whole : goal.returns-in-Whole
returns-in-Whole c = whole_item 128 c.args.bytes.now c.in_ok-token.token c.in-Whole.value c.in_ok-token.rest.now c.in_ok-token.ensures c.in-Whole.is

pub returns-in_ok-list-in-List : goal.returns-in_ok-list-in-List
returns-in_ok-list-in-List c =
    rw (list_item 128 c.args.bytes.now c.in_ok-token.token c.in-List.count c.in_ok-token.rest.now c.in_ok-list-in-List.list c.in_ok-token.ensures c.in-List.is c.in_ok-list-in-List.ensures) c.nested_of.ensures

pub returns-in_ok-map-in-Map : goal.returns-in_ok-map-in-Map
returns-in_ok-map-in-Map c =
    rw (map_item 128 c.args.bytes.now c.in_ok-token.token c.in-Map.count c.in_ok-token.rest.now c.in_ok-map-in-Map.map c.in_ok-token.ensures c.in-Map.is c.in_ok-map-in-Map.ensures) c.nested_of-in-Map.ensures
