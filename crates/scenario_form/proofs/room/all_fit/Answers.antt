use Rattle.std.proofs.lemmas.Result.{IfOk-weaker}
use Rattle.scenario_form.proofs.Rooms.{fits_is}
use Rattle.scenario_form.proofs.room.all_fit.Goals as goal

pub returns : goal.returns
returns c =
    λ s stands. IfOk-weaker c.within.result _ _ (λ fits is. fits_is s c.args.tipsets.now c.greatest_awards.result c.greatest_awards.ensures.above c.greatest_awards.ensures.reached fits is)
    (c.within.ensures s.actors s.info stands)
