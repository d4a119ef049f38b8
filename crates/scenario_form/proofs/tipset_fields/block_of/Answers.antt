use Rattle.std.proofs.Common.{Bor, List, ℕ, ap, sym, ◌∙◌}
use Rattle.scenario_form.specs.Reading.{each_read, message_read}
use Rattle.scenario_form.specs.Spelled.{the_value, the_values}
use Rattle.scenario_form.proofs.Exits.{part_exit}
use Rattle.scenario_form.proofs.PartTexts.{texts_of}
use Rattle.scenario_form.proofs.TipsetReads.{block_found, block_refused, messages_refused}
use Rattle.scenario_form.proofs.tipset_fields.block_of.Goals as goal

pub returns-in-Err-clause-fault : goal.returns-in-Err-clause-fault
returns-in-Err-clause-fault c = block_refused c.args.tipset c.args.block (the_value c.args.bytes.now) _ _ _ c.in-Err.ensures.fault c.failed_at.ensures c.block.ensures

pub returns-in_err-messages-clause-fault : goal.returns-in_err-messages-clause-fault
returns-in_err-messages-clause-fault c =
    part_exit _ _ _ c.from_residual.result c.from_residual.ensures.1 c.in_err-messages.ensures.fault
    (λ fault refused. messages_refused c.args.tipset c.args.block (the_value c.args.bytes.now) _ fault c.in-Ok.ensures.found (ap (λ (list : List (Bor (List ℕ))). each_read (message_read c.args.tipset c.args.block) 0 (the_values (texts_of list))) (sym c.as_slice.ensures.value) ∙ refused))

pub returns-clause-found : goal.returns-clause-found
returns-clause-found c = block_found c.args.tipset c.args.block (the_value c.args.bytes.now) _ _ c.in-Ok.ensures.found (ap (λ (list : List (Bor (List ℕ))). each_read (message_read c.args.tipset c.args.block) 0 (the_values (texts_of list))) (sym c.as_slice.ensures.value) ∙ c.in_ok-messages.ensures.found)
