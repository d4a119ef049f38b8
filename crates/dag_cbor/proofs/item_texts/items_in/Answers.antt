use Rattle.std.proofs.Common.{rules}
use Rattle.dag_cbor.proofs.ItemTexts.{found_so, list_is, no_list, no_list_head, none_so}
use Rattle.dag_cbor.proofs.item_texts.items_in.Goals as goal

pub returns-in-Some-clause-found : goal.returns-in-Some-clause-found
returns-in-Some-clause-found c =
    found_so _ _
    (λ spellings (items, plain, len, is, texts). let list = list_is c.args.bytes.now c.in-Some.rest.now c.in-Some.count items c.in-Some.ensures.found (search rules) plain len is in (items, list.0, list.1, texts))
    c.whole_items.result c.whole_items.ensures.found

pub returns-in-Some-clause-only : goal.returns-in-Some-clause-only
returns-in-Some-clause-only c = none_so _ _ (no_list c.args.bytes.now c.in-Some.rest.now c.in-Some.count c.in-Some.ensures.found (search rules)) c.whole_items.result c.whole_items.ensures.only

pub returns-in-None-clause-only : goal.returns-in-None-clause-only
returns-in-None-clause-only c = no_list_head c.args.bytes.now c.in-None.ensures.only
