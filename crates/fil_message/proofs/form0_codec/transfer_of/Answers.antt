use Rattle.std.proofs.Common.{refl, sym}
use Rattle.fil_message.specs.Form0Reading.{transfer_of}
use Rattle.fil_message.proofs.ReadSteps.{form_exit}
use Rattle.fil_message.proofs.form0_codec.transfer_of.Goals as goal

pub returns-in_err-items : goal.returns-in_err-items
unfolding transfer_of
returns-in_err-items c =
    form_exit c.from_residual.result (transfer_of c.args.value.now) _ c.from_residual.ensures.1 (rw (c.in_err-items.ensures.fault) refl)

pub returns-in_err-from : goal.returns-in_err-from
unfolding transfer_of
returns-in_err-from c =
    form_exit c.from_residual-in_err-from.result (transfer_of c.args.value.now) _ c.from_residual-in_err-from.ensures.1 (rw (c.in_ok-items.ensures.found, sym c.in_err-from.ensures) refl)

pub returns-in_err-to : goal.returns-in_err-to
unfolding transfer_of
returns-in_err-to c =
    form_exit c.from_residual-in_err-to.result (transfer_of c.args.value.now) _ c.from_residual-in_err-to.ensures.1 (rw (c.in_ok-items.ensures.found, sym c.in_ok-from.ensures, sym c.in_err-to.ensures) refl)

pub returns-in_err-nonce : goal.returns-in_err-nonce
unfolding transfer_of
returns-in_err-nonce c =
    form_exit c.from_residual-in_err-nonce.result (transfer_of c.args.value.now) _ c.from_residual-in_err-nonce.ensures.1 (rw (c.in_ok-items.ensures.found, sym c.in_ok-from.ensures, sym c.in_ok-to.ensures, sym c.in_err-nonce.ensures) refl)

pub returns-in_err-value : goal.returns-in_err-value
unfolding transfer_of
returns-in_err-value c =
    form_exit c.from_residual-in_err-value.result (transfer_of c.args.value.now) _ c.from_residual-in_err-value.ensures.1 (rw (c.in_ok-items.ensures.found, sym c.in_ok-from.ensures, sym c.in_ok-to.ensures, sym c.in_ok-nonce.ensures, sym c.in_err-value.ensures) refl)

pub returns : goal.returns
unfolding transfer_of
returns c = rw (c.in_ok-items.ensures.found, sym c.in_ok-from.ensures, sym c.in_ok-to.ensures, sym c.in_ok-nonce.ensures, sym c.in_ok-value.ensures) refl
