use Rattle.std.proofs.Common.{refl, sym}
use Rattle.fil_message.specs.Reading.{message_of}
use Rattle.fil_message.proofs.ReadSteps.{err_exit}
use Rattle.fil_message.proofs.codec.fields_of.Goals as goal

pub returns-in_err-items-clause-fault : goal.returns-in_err-items-clause-fault
unfolding message_of
returns-in_err-items-clause-fault c =
    err_exit c.from_residual.result (message_of c.args.value.now) _ c.from_residual.ensures.1 (rw (c.in_err-items.ensures.fault) refl)

pub returns-in_err-_version-clause-fault : goal.returns-in_err-_version-clause-fault
unfolding message_of
returns-in_err-_version-clause-fault c =
    err_exit c.from_residual-in_err-_version.result (message_of c.args.value.now) _ c.from_residual-in_err-_version.ensures.1 (rw (c.in_ok-items.ensures.found, sym c.in_err-_version.ensures) refl)

pub returns-in_err-to-clause-fault : goal.returns-in_err-to-clause-fault
unfolding message_of
returns-in_err-to-clause-fault c =
    err_exit c.from_residual-in_err-to.result (message_of c.args.value.now) _ c.from_residual-in_err-to.ensures.1 (rw (c.in_ok-items.ensures.found, sym c.in_ok-_version.ensures, sym c.in_err-to.ensures) refl)

pub returns-in_err-from-clause-fault : goal.returns-in_err-from-clause-fault
unfolding message_of
returns-in_err-from-clause-fault c =
    err_exit c.from_residual-in_err-from.result (message_of c.args.value.now) _ c.from_residual-in_err-from.ensures.1 (rw (c.in_ok-items.ensures.found, sym c.in_ok-_version.ensures, sym c.in_ok-to.ensures, sym c.in_err-from.ensures) refl)

pub returns-in_err-nonce-clause-fault : goal.returns-in_err-nonce-clause-fault
unfolding message_of
returns-in_err-nonce-clause-fault c =
    err_exit c.from_residual-in_err-nonce.result (message_of c.args.value.now) _ c.from_residual-in_err-nonce.ensures.1 (rw (c.in_ok-items.ensures.found, sym c.in_ok-_version.ensures, sym c.in_ok-to.ensures, sym c.in_ok-from.ensures, sym c.in_err-nonce.ensures) refl)

pub returns-in_err-value-clause-fault : goal.returns-in_err-value-clause-fault
unfolding message_of
returns-in_err-value-clause-fault c =
    err_exit c.from_residual-in_err-value.result (message_of c.args.value.now) _ c.from_residual-in_err-value.ensures.1 (rw (c.in_ok-items.ensures.found, sym c.in_ok-_version.ensures, sym c.in_ok-to.ensures, sym c.in_ok-from.ensures, sym c.in_ok-nonce.ensures, sym c.in_err-value.ensures) refl)

pub returns-in_err-limit-clause-fault : goal.returns-in_err-limit-clause-fault
unfolding message_of
returns-in_err-limit-clause-fault c =
    err_exit c.from_residual-in_err-limit.result (message_of c.args.value.now) _ c.from_residual-in_err-limit.ensures.1 (rw (c.in_ok-items.ensures.found, sym c.in_ok-_version.ensures, sym c.in_ok-to.ensures, sym c.in_ok-from.ensures, sym c.in_ok-nonce.ensures, sym c.in_ok-value.ensures, sym c.in_err-limit.ensures) refl)

pub returns-in_err-cap-clause-fault : goal.returns-in_err-cap-clause-fault
unfolding message_of
returns-in_err-cap-clause-fault c =
    err_exit c.from_residual-in_err-cap.result (message_of c.args.value.now) _ c.from_residual-in_err-cap.ensures.1 (rw (c.in_ok-items.ensures.found, sym c.in_ok-_version.ensures, sym c.in_ok-to.ensures, sym c.in_ok-from.ensures, sym c.in_ok-nonce.ensures, sym c.in_ok-value.ensures, sym c.in_ok-limit.ensures, sym c.in_err-cap.ensures) refl)

pub returns-in_err-premium-clause-fault : goal.returns-in_err-premium-clause-fault
unfolding message_of
returns-in_err-premium-clause-fault c =
    err_exit c.from_residual-in_err-premium.result (message_of c.args.value.now) _ c.from_residual-in_err-premium.ensures.1 (rw (c.in_ok-items.ensures.found, sym c.in_ok-_version.ensures, sym c.in_ok-to.ensures, sym c.in_ok-from.ensures, sym c.in_ok-nonce.ensures, sym c.in_ok-value.ensures, sym c.in_ok-limit.ensures, sym c.in_ok-cap.ensures, sym c.in_err-premium.ensures) refl)

pub returns-in_err-method-clause-fault : goal.returns-in_err-method-clause-fault
unfolding message_of
returns-in_err-method-clause-fault c =
    err_exit c.from_residual-in_err-method.result (message_of c.args.value.now) _ c.from_residual-in_err-method.ensures.1 (rw (c.in_ok-items.ensures.found, sym c.in_ok-_version.ensures, sym c.in_ok-to.ensures, sym c.in_ok-from.ensures, sym c.in_ok-nonce.ensures, sym c.in_ok-value.ensures, sym c.in_ok-limit.ensures, sym c.in_ok-cap.ensures, sym c.in_ok-premium.ensures, sym c.in_err-method.ensures) refl)

pub returns-in_err-params-clause-fault : goal.returns-in_err-params-clause-fault
unfolding message_of
returns-in_err-params-clause-fault c =
    err_exit c.from_residual-in_err-params.result (message_of c.args.value.now) _ c.from_residual-in_err-params.ensures.1 (rw (c.in_ok-items.ensures.found, sym c.in_ok-_version.ensures, sym c.in_ok-to.ensures, sym c.in_ok-from.ensures, sym c.in_ok-nonce.ensures, sym c.in_ok-value.ensures, sym c.in_ok-limit.ensures, sym c.in_ok-cap.ensures, sym c.in_ok-premium.ensures, sym c.in_ok-method.ensures, c.in_err-params.ensures.fault) refl)

pub returns-clause-found : goal.returns-clause-found
unfolding message_of
returns-clause-found c = rw (c.in_ok-items.ensures.found, sym c.in_ok-_version.ensures, sym c.in_ok-to.ensures, sym c.in_ok-from.ensures, sym c.in_ok-nonce.ensures, sym c.in_ok-value.ensures, sym c.in_ok-limit.ensures, sym c.in_ok-cap.ensures, sym c.in_ok-premium.ensures, sym c.in_ok-method.ensures, c.in_ok-params.ensures.found) refl
