use Rattle.std.proofs.Common.{◌≤◌, take}
use Rattle.std.specs.Prelude.{All}
use Rattle.fil_message.specs.Tipsets.{awards}
use Rattle.scenario_form.proofs.Rooms.{IsReached}
use Rattle.scenario_form.proofs.room.greatest_awards.Given as goal

abbrev pub invariant-loop-tipset : goal.invariant-loop-tipset
invariant-loop-tipset l = record { above : All (λ t. awards t ≤ l.greatest) (take l.tipset-index l.tipsets); reached : IsReached l.greatest l.tipsets }
