use Rattle.std.proofs.Common.{length, refl, sym, ap, ◌∙◌, Err}
use Rattle.std.proofs.lemmas.Bool.{ltb-true}
use Rattle.std.proofs.lemmas.Option.{slice_get_read}
use Rattle.scenario_form.proofs.PartTexts.{are_items, items_found, items_refused, text_there, texts_of}
use Rattle.scenario_form.proofs.spelled.items_at.Goals as goal

pub returns-in-Some-2-clause-found : goal.returns-in-Some-2-clause-found
returns-in-Some-2-clause-found c =
    let found = rw c.in-Some-2.is at c.in_ok-items.ensures.found in
    let there = slice_get_read c.args.list.now (length c.args.list.now) c.args.at c.in-Some.bytes.now refl (ltb-true _ _ (sym c.in-Some.ensures.lookup.0)) c.in-Some.ensures.lookup.1 in
    let is = text_there c.args.list.now c.args.at c.in-Some.bytes.now c.requires.parts.each there in
    items_found c.args.list.now c.args.at c.in-Some.bytes.now (texts_of c.in-Some-2.items.items) there (are_items c.in-Some.bytes.now.now found.0 (texts_of c.in-Some-2.items.items) is found.1 found.2 found.3)

pub returns-in-Some-2-clause-parts : goal.returns-in-Some-2-clause-parts
returns-in-Some-2-clause-parts c =
    let found = rw c.in-Some-2.is at c.in_ok-items.ensures.found in
    let there = slice_get_read c.args.list.now (length c.args.list.now) c.args.at c.in-Some.bytes.now refl (ltb-true _ _ (sym c.in-Some.ensures.lookup.0)) c.in-Some.ensures.lookup.1 in
    let is = text_there c.args.list.now c.args.at c.in-Some.bytes.now c.requires.parts.each there in
    (are_items c.in-Some.bytes.now.now found.0 (texts_of c.in-Some-2.items.items) is found.1 found.2 found.3).texts_are

pub returns-in-None-clause-fault : goal.returns-in-None-clause-fault
returns-in-None-clause-fault c =
    let there = slice_get_read c.args.list.now (length c.args.list.now) c.args.at c.in-Some.bytes.now refl (ltb-true _ _ (sym c.in-Some.ensures.lookup.0)) c.in-Some.ensures.lookup.1 in
    let is = text_there c.args.list.now c.args.at c.in-Some.bytes.now c.requires.parts.each there in
    items_refused c.args.list.now c.args.at c.in-Some.bytes.now there is (rw c.in-None.is at c.in_ok-items.ensures.only) ∙ ap Err (sym c.fault_at-in-None.ensures)
