use Rattle.std.proofs.Common.{[], sym, ◌∙◌}
use Rattle.std.proofs.lemmas.List.{append-nil}
use Rattle.dag_cbor.specs.Spelling.{spelled}
use Rattle.hamt_map.proofs.ReadParts.{nothing_behind}
use Rattle.hamt_map.proofs.node_form.is_value.Goals as goal

pub returns-in-Some-clause-only : goal.returns-in-Some-clause-only
returns-in-Some-clause-only c = λ off value plain is.
    let item = c.in-Some.ensures.found in
    nothing_behind item.0 value c.args.bytes.now c.in-Some.field-0-0.now c.in-Some.rest.now c.is_empty.result item.1 item.2 item.3 c.is_empty.ensures off plain is

pub returns-in-None-clause-only : goal.returns-in-None-clause-only
returns-in-None-clause-only c = λ off value plain is. c.in-None.ensures.only value [] plain (is ∙ sym (append-nil (spelled value)))
