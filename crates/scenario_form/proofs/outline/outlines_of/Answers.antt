use Rattle.std.proofs.Common.{[], ◌∷◌, ◌++◌, refl, arith, sym}
use Rattle.std.proofs.lemmas.List.{length-map}
use Rattle.scenario_form.specs.Reading.{tipset_read}
use Rattle.scenario_form.specs.Spelled.{the_value, the_values}
use Rattle.scenario_form.proofs.Exits.{part_exit}
use Rattle.scenario_form.proofs.KeptTipsets.{kept_none}
use Rattle.scenario_form.proofs.PartTexts.{part_text_at, text, texts_of, value_at, values_count}
use Rattle.scenario_form.proofs.Ranges.{tipset_good}
use Rattle.scenario_form.proofs.Steps.{each_all, each_fault, each_more}
use Rattle.scenario_form.proofs.outline.outlines_of.Goals as goal

pub loop-i-init : goal.loop-i-init
loop-i-init c = kept_none (the_values (texts_of c.args.list.now)) _ c.in_ok-kept.ensures

pub overflow_cast-i : goal.overflow_cast-i
overflow_cast-i c = omega (arith, c.requires.few, length-map c.args.list.now text)

pub tipset_of-requires : goal.tipset_of-requires
tipset_of-requires c = part_text_at c.args.list.now c.loop-i.i _ c.requires.each (omega arith)

pub add-requires : goal.add-requires
add-requires c = tipset_good c.loop-i.i (the_value _) c.in_ok-tipset.tipset (part_text_at c.args.list.now c.loop-i.i _ c.requires.each (omega arith)).part c.in_ok-tipset.ensures.found

pub loop-i-preserved : goal.loop-i-preserved
loop-i-preserved c = record {
  done = c.loop-i.invariant.done ++ c.in_ok-tipset.tipset ∷ [];
  so_far = each_more tipset_read (the_values (texts_of c.args.list.now)) c.loop-i.i _ c.loop-i.invariant.done _ _ (omega (arith, values_count c.args.list.now)) (sym (value_at c.args.list.now c.loop-i.i _ _ (omega arith))) c.in_ok-tipset.ensures.found c.loop-i.invariant.so_far refl;
  outlines = c.in_ok-add.ensures c.loop-i.invariant.done c.loop-i.invariant.outlines;
}

pub returns-in_err-tipset-clause-fault : goal.returns-in_err-tipset-clause-fault
returns-in_err-tipset-clause-fault c =
    part_exit _ _ _ c.from_residual-in_err-tipset.result c.from_residual-in_err-tipset.ensures.1 c.in_err-tipset.ensures.fault
    (λ fault refused.
    each_fault tipset_read (the_values (texts_of c.args.list.now)) c.loop-i.i _ c.loop-i.invariant.done fault (omega (arith, values_count c.args.list.now)) (sym (value_at c.args.list.now c.loop-i.i _ _ (omega arith))) refused c.loop-i.invariant.so_far)

pub returns-clause-found : goal.returns-clause-found
returns-clause-found c =
    (c.loop-i.invariant.done, each_all tipset_read (the_values (texts_of c.args.list.now)) c.loop-i.i _ (omega (arith, values_count c.args.list.now)) c.loop-i.invariant.so_far, c.loop-i.invariant.outlines)
