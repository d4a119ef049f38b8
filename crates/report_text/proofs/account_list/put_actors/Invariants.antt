use Rattle.std.proofs.Common.{◌≡◌, ◌++◌, take}
use Rattle.std.specs.List.{flat_map}
use Rattle.report_text.specs.Form0Text.{actor_line}
use Rattle.report_text.proofs.account_list.put_actors.Given as goal

abbrev pub invariant-loop-actor : goal.invariant-loop-actor
invariant-loop-actor l = l.text.items ≡ l.fn.text.items ++ flat_map actor_line (take l.actor-index l.actors)
