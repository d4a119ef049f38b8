use Rattle.std.proofs.Common.{Some, refl, sym}
use Rattle.tipset_exec.proofs.LedgerSteps.{gift_fits}
use Rattle.tipset_exec.proofs.ledger.Ledger.give_to.Goals as goal

pub sum_of-balance-requires : goal.sum_of-balance-requires
sum_of-balance-requires c = let r = c.requires in gift_fits r.0 c.args.id c.args.amount (Some c.args.actor) c.args.actor (sym r.2) refl r.3
