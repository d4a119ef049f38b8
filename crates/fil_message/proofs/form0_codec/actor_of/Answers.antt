use Rattle.std.proofs.Common.{refl, sym}
use Rattle.fil_message.specs.Form0Reading.{actor_of}
use Rattle.fil_message.proofs.ReadSteps.{form_exit}
use Rattle.fil_message.proofs.form0_codec.actor_of.Goals as goal

pub returns-in_err-items : goal.returns-in_err-items
unfolding actor_of
returns-in_err-items c =
    form_exit c.from_residual.result (actor_of c.args.value.now) _ c.from_residual.ensures.1 (rw (c.in_err-items.ensures.fault) refl)

pub returns-in_err-id : goal.returns-in_err-id
unfolding actor_of
returns-in_err-id c =
    form_exit c.from_residual-in_err-id.result (actor_of c.args.value.now) _ c.from_residual-in_err-id.ensures.1 (rw (c.in_ok-items.ensures.found, sym c.in_err-id.ensures) refl)

pub returns-in_err-nonce : goal.returns-in_err-nonce
unfolding actor_of
returns-in_err-nonce c =
    form_exit c.from_residual-in_err-nonce.result (actor_of c.args.value.now) _ c.from_residual-in_err-nonce.ensures.1 (rw (c.in_ok-items.ensures.found, sym c.in_ok-id.ensures, sym c.in_err-nonce.ensures) refl)

pub returns-in_err-balance : goal.returns-in_err-balance
unfolding actor_of
returns-in_err-balance c =
    form_exit c.from_residual-in_err-balance.result (actor_of c.args.value.now) _ c.from_residual-in_err-balance.ensures.1 (rw (c.in_ok-items.ensures.found, sym c.in_ok-id.ensures, sym c.in_ok-nonce.ensures, sym c.in_err-balance.ensures) refl)

pub returns : goal.returns
unfolding actor_of
returns c = rw (c.in_ok-items.ensures.found, sym c.in_ok-id.ensures, sym c.in_ok-nonce.ensures, sym c.in_ok-balance.ensures) refl
