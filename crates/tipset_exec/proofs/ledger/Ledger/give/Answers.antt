use Rattle.std.proofs.Common.{sym, ◌∙◌}
use Rattle.tipset_exec.proofs.ledger.Ledger.give.Goals as goal

pub give_to-requires : goal.give_to-requires
give_to-requires c = let r = c.requires in (r.0, r.1, sym (c.in_ok-actor.ensures r.0 r.1) ∙ c.in-Some.is, r.2)

pub returns-in-Some : goal.returns-in-Some
returns-in-Some c = λ s stands. c.give_to.ensures s stands (sym (c.in_ok-actor.ensures s stands) ∙ c.in-Some.is)
