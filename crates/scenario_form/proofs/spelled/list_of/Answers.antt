use Rattle.std.proofs.Common.{rules, sym, ap, ◌∙◌, Err}
use Rattle.scenario_form.proofs.PartTexts.{are_items, list_found, list_refused, no_list_of, text, texts_of}
use Rattle.std.proofs.lemmas.List.{length-map}
use Rattle.scenario_form.proofs.spelled.list_of.Goals as goal

pub returns-in_default-clause-fault : goal.returns-in_default-clause-fault
returns-in_default-clause-fault c = no_list_of c.args.bytes.now c.args.len c.requires (rw c.in_default.is at c.in_ok-items.ensures.only) ∙ ap Err (sym c.fault_at.ensures)

pub returns-then-len-clause-fault : goal.returns-then-len-clause-fault
returns-then-len-clause-fault c =
    let found = rw c.in-Some.is at c.in_ok-items.ensures.found in
    let are = are_items c.args.bytes.now found.0 (texts_of c.in-Some.items.items) c.requires found.1 found.2 found.3 in
    list_refused c.args.bytes.now (texts_of c.in-Some.items.items) c.len.result c.args.len are ((search rules) ∙ sym (length-map c.in-Some.items.items text)) c.if-len.true ∙ ap Err (sym c.fault_at-then-len.ensures)

pub returns-clause-found : goal.returns-clause-found
returns-clause-found c =
    let found = rw c.in-Some.is at c.in_ok-items.ensures.found in
    let are = are_items c.args.bytes.now found.0 (texts_of c.in-Some.items.items) c.requires found.1 found.2 found.3 in
    list_found c.args.bytes.now (texts_of c.in-Some.items.items) c.len.result c.args.len are ((search rules) ∙ sym (length-map c.in-Some.items.items text)) c.if-len.false

pub returns-clause-parts : goal.returns-clause-parts
returns-clause-parts c =
    let found = rw c.in-Some.is at c.in_ok-items.ensures.found in
    (are_items c.args.bytes.now found.0 (texts_of c.in-Some.items.items) c.requires found.1 found.2 found.3).texts_are
