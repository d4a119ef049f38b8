use Rattle.std.proofs.Common.{◌∷◌, [], ◌++◌, ap, ◌∙◌, arith}
use Rattle.fil_base.proofs.Base32Text.{filled_more, last_fits, last_shifted}
use Rattle.fil_base.proofs.base32.fill_last.Goals as goal

pub overflow_cast-pending : goal.overflow_cast-pending
overflow_cast-pending c =
    omega (arith, last_shifted c.args.pending.bits c.args.pending.count c.requires.few c.requires.fits, last_fits c.args.pending.bits c.args.pending.count c.requires.few c.requires.fits)

pub returns : goal.returns
returns c = λ n len is.
    c.in_ok-push.ensures.items ∙ (ap (λ g. c.args.groups.now.items ++ (g ∷ [])) (last_shifted c.args.pending.bits c.args.pending.count c.requires.few c.requires.fits) ∙ filled_more n len c.args.pending.bits c.args.pending.count c.args.groups.now.items c.requires.few c.if-pending-eq0.false is)
