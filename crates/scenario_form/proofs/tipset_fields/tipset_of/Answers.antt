use Rattle.std.proofs.Common.{Bor, List, ℕ, ap, sym, ◌∙◌}
use Rattle.scenario_form.specs.Reading.{each_read, block_read}
use Rattle.scenario_form.specs.Spelled.{the_value, the_values}
use Rattle.scenario_form.proofs.Exits.{part_exit}
use Rattle.scenario_form.proofs.PartTexts.{texts_of}
use Rattle.scenario_form.proofs.TipsetReads.{blocks_refused, tipset_found, tipset_refused}
use Rattle.scenario_form.proofs.tipset_fields.tipset_of.Goals as goal

pub returns-in-Err-clause-fault : goal.returns-in-Err-clause-fault
returns-in-Err-clause-fault c = tipset_refused c.args.tipset (the_value c.args.bytes.now) _ _ _ c.in-Err.ensures.fault c.failed_at.ensures c.tipset.ensures

pub returns-in_err-blocks-clause-fault : goal.returns-in_err-blocks-clause-fault
returns-in_err-blocks-clause-fault c =
    part_exit _ _ _ c.from_residual.result c.from_residual.ensures.1 c.in_err-blocks.ensures.fault
    (λ fault refused. blocks_refused c.args.tipset (the_value c.args.bytes.now) _ fault c.in-Ok.ensures.found (ap (λ (list : List (Bor (List ℕ))). each_read (block_read c.args.tipset) 0 (the_values (texts_of list))) (sym c.as_slice.ensures.value) ∙ refused))

pub returns-clause-found : goal.returns-clause-found
returns-clause-found c = tipset_found c.args.tipset (the_value c.args.bytes.now) _ _ c.in-Ok.ensures.found (ap (λ (list : List (Bor (List ℕ))). each_read (block_read c.args.tipset) 0 (the_values (texts_of list))) (sym c.as_slice.ensures.value) ∙ c.in_ok-blocks.ensures.found)
