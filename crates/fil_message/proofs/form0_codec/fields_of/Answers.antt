use Rattle.std.proofs.Common.{◌-◌, ◌^◌, refl}
use Rattle.cbor_fields.specs.Fields.{field}
use Rattle.fil_message.specs.Form0Reading.{fields_read, in_form}
use Rattle.fil_message.specs.Readers.{just, up_to}
use Rattle.fil_message.proofs.ReadSteps.{in_first, in_first_two, memory_exit, part_exit}
use Rattle.fil_message.proofs.form0_codec.fields_of.Goals as goal

pub returns-in_err-items-clause-fault : goal.returns-in_err-items-clause-fault
unfolding fields_read
returns-in_err-items-clause-fault c =
    memory_exit c.from_residual.result (in_form (fields_read c.args.value.now)) _ c.from_residual.ensures.1 (in_first _ _ _ c.in_err-items.ensures.fault)

pub returns-in_err-epoch-clause-fault : goal.returns-in_err-epoch-clause-fault
unfolding fields_read
returns-in_err-epoch-clause-fault c =
    memory_exit c.from_residual-in_err-epoch.result (in_form (fields_read c.args.value.now)) _ c.from_residual-in_err-epoch.ensures.1
    (rw (c.in_ok-items.ensures.found) (in_first_two (field (just 0) c.in_ok-items.items.now 0) (field (up_to (2 ^ 63 - 1)) c.in_ok-items.items.now 1) _ _ c.in_err-epoch.ensures.fault))

pub returns-in_err-listed-clause-fault : goal.returns-in_err-listed-clause-fault
unfolding fields_read
returns-in_err-listed-clause-fault c =
    memory_exit c.from_residual-in_err-listed.result (in_form (fields_read c.args.value.now)) _ c.from_residual-in_err-listed.ensures.1
    (rw (c.in_ok-items.ensures.found, c.in_ok-epoch.ensures.form, c.in_ok-epoch.ensures.found) (in_first _ _ _ c.in_err-listed.ensures.fault))

pub returns-in_err-actors-clause-fault : goal.returns-in_err-actors-clause-fault
unfolding fields_read
returns-in_err-actors-clause-fault c =
    part_exit _ c.from_residual-in_err-actors.result _ (in_form (fields_read c.args.value.now)) c.from_residual-in_err-actors.ensures.1 c.in_err-actors.ensures.fault
    (λ e is. rw (c.in_ok-items.ensures.found, c.in_ok-epoch.ensures.form, c.in_ok-epoch.ensures.found, c.in_ok-listed.ensures.found) (in_first _ _ e is))

pub returns-in_err-sent-clause-fault : goal.returns-in_err-sent-clause-fault
unfolding fields_read
returns-in_err-sent-clause-fault c =
    memory_exit c.from_residual-in_err-sent.result (in_form (fields_read c.args.value.now)) _ c.from_residual-in_err-sent.ensures.1
    (rw (c.in_ok-items.ensures.found, c.in_ok-epoch.ensures.form, c.in_ok-epoch.ensures.found, c.in_ok-listed.ensures.found, c.in_ok-actors.ensures.found) (in_first _ _ _ c.in_err-sent.ensures.fault))

pub returns-in_err-messages-clause-fault : goal.returns-in_err-messages-clause-fault
unfolding fields_read
returns-in_err-messages-clause-fault c =
    part_exit _ c.from_residual-in_err-messages.result _ (in_form (fields_read c.args.value.now)) c.from_residual-in_err-messages.ensures.1 c.in_err-messages.ensures.fault
    (λ e is. rw (c.in_ok-items.ensures.found, c.in_ok-epoch.ensures.form, c.in_ok-epoch.ensures.found, c.in_ok-listed.ensures.found, c.in_ok-actors.ensures.found, c.in_ok-sent.ensures.found) (in_first _ _ e is))

pub returns-clause-found : goal.returns-clause-found
unfolding fields_read
returns-clause-found c =
    rw (c.in_ok-items.ensures.found, c.in_ok-epoch.ensures.form, c.in_ok-epoch.ensures.found, c.in_ok-listed.ensures.found, c.in_ok-actors.ensures.found, c.in_ok-sent.ensures.found, c.in_ok-messages.ensures.found) refl
