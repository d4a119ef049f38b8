use Rattle.std.proofs.Common.{List, Bor, ℕ, ◌<◌, ap, arith, length}
use Rattle.std.proofs.lemmas.List.{length-map}
use Rattle.scenario_form.proofs.PartTexts.{text}
use Rattle.scenario_form.proofs.TipsetTexts.{never_refused, spelled_count, text_part, tipset_is}
use Rattle.scenario_form.proofs.spelled_scenario.SpelledScenario.tipset.Goals as goal

pub overflow_cast-at : goal.overflow_cast-at
overflow_cast-at c =
    let given = c.requires in
    omega (arith, given.2, spelled_count c.args.self.now given.0 given.1, given.1.parts.few, length-map c.args.self.now.tipsets.items text)

pub offset_bounds-list-at : goal.offset_bounds-list-at
offset_bounds-list-at c =
    let given = c.requires in
    omega (arith, given.2, spelled_count c.args.self.now given.0 given.1, c.as_slice-list.type_inv.1, ap (λ (l : List (Bor (List ℕ))). length l) c.as_slice-list.ensures.value)

pub bounds-list-at : goal.bounds-list-at
bounds-list-at c =
    let given = c.requires in
    omega (arith, given.2, spelled_count c.args.self.now given.0 given.1, ap (λ (l : List (Bor (List ℕ))). length l) c.as_slice-list.ensures.value)

pub tipset_of-requires : goal.tipset_of-requires
tipset_of-requires c =
    let given = c.requires in
    text_part c.args.self.now given.0 c.as_slice-list.result.now c.args.at _ given.1 c.as_slice-list.ensures.value given.2

pub unreachable-requires : goal.unreachable-requires
unreachable-requires c =
    let given = c.requires in
    never_refused c.args.self.now given.0 c.as_slice-list.result.now c.args.at _ c.in-Err-Fault.field-0-0 given.1 c.as_slice-list.ensures.value given.2 (rw c.in-Err-Fault.field-0-is at c.in-Err-Fault.ensures.fault)

pub returns-in-Ok : goal.returns-in-Ok
returns-in-Ok c = λ tipsets d is.
    let given = c.requires in
    let within : c.args.at < length tipsets = omega (arith, given.2, spelled_count c.args.self.now given.0 given.1, spelled_count c.args.self.now tipsets is) in
    tipset_is c.args.self.now tipsets c.as_slice-list.result.now c.args.at _ d c.in-Ok.tipset is c.as_slice-list.ensures.value within c.in-Ok.ensures.found
