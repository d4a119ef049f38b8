use Rattle.std.proofs.Common.{sym, ap, ◌∙◌, rules}
use Rattle.dag_cbor.specs.Spelling.{spelled}
use Rattle.dag_cbor.proofs.Equations.{spelled-Null, spelled-Bool, spelled-Link}
use Rattle.dag_cbor.proofs.PutSteps.{spelled-Int, put_as, blob_text, text_text, list_text, map_text, plain_deep, plain_integer, plain_items, plain_pairs}
use Rattle.dag_cbor.proofs.encoding.+putting.Goals as goal

pub put_value-put_integer-requires : goal.put_value-put_integer-requires
put_value-put_integer-requires t c = plain_integer c.args.depth c.args.value.now c.in-Int.integer c.in-Int.is c.requires

pub put_value-put_list-requires : goal.put_value-put_list-requires
put_value-put_list-requires t c =
    (search rules, (plain_deep c.args.depth c.args.value.now c.requires, plain_items c.args.depth c.args.value.now c.as_slice-in-List.result.now c.in-List.items c.as_slice-in-List.ensures c.in-List.is c.requires))

pub put_value-put_map-requires : goal.put_value-put_map-requires
put_value-put_map-requires t c =
    (search rules, (plain_deep c.args.depth c.args.value.now c.requires, plain_pairs c.args.depth c.args.value.now c.as_slice-in-Map.result.now c.in-Map.pairs c.as_slice-in-Map.ensures c.in-Map.is c.requires))

pub put_value-returns-in-Null : goal.put_value-returns-in-Null
put_value-returns-in-Null t c = put_as _ _ _ _ _ (sym spelled-Null ∙ ap spelled (sym c.in-Null.is)) c.put_head.ensures

pub put_value-returns-in-Bool : goal.put_value-returns-in-Bool
put_value-returns-in-Bool t c = put_as _ _ _ _ _ (sym (spelled-Bool c.in-Bool.truth) ∙ ap spelled (sym c.in-Bool.is)) c.put_bool.ensures

pub put_value-returns-in-Int : goal.put_value-returns-in-Int
put_value-returns-in-Int t c = put_as _ _ _ _ _ (sym (spelled-Int c.in-Int.integer) ∙ ap spelled (sym c.in-Int.is)) c.put_integer.ensures

pub put_value-returns-in-Blob : goal.put_value-returns-in-Blob
put_value-returns-in-Blob t c = put_as _ _ _ _ _ (blob_text c.args.value.now c.as_slice.result.now c.in-Blob.bytes c.as_slice.ensures c.in-Blob.is) c.put_string.ensures

pub put_value-returns-in-Text : goal.put_value-returns-in-Text
put_value-returns-in-Text t c = put_as _ _ _ _ _ (text_text c.args.value.now c.as_slice-in-Text.result.now c.in-Text.text c.as_slice-in-Text.ensures c.in-Text.is) c.put_string-in-Text.ensures

pub put_value-returns-in-List : goal.put_value-returns-in-List
put_value-returns-in-List t c = put_as _ _ _ _ _ (list_text c.args.value.now c.as_slice-in-List.result.now c.in-List.items c.as_slice-in-List.ensures c.in-List.is) c.put_list.ensures

pub put_value-returns-in-Map : goal.put_value-returns-in-Map
put_value-returns-in-Map t c = put_as _ _ _ _ _ (map_text c.args.value.now c.as_slice-in-Map.result.now c.in-Map.pairs c.as_slice-in-Map.ensures c.in-Map.is) c.put_map.ensures

pub put_value-returns-in-Link : goal.put_value-returns-in-Link
put_value-returns-in-Link t c = put_as _ _ _ _ _ (sym (spelled-Link c.in-Link.cid) ∙ ap spelled (sym c.in-Link.is)) c.put_link.ensures
