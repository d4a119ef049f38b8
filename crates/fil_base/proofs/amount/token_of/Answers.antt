use Rattle.std.proofs.Common.{ap, sym, ◌∙◌, arith}
use Rattle.std.proofs.lemmas.List.{nil_from_length}
use Rattle.fil_base.specs.Amount.{amount}
use Rattle.fil_base.proofs.amount.token_of.Goals as goal

pub returns-in-empty : goal.returns-in-empty
unfolding amount
returns-in-empty c = nil_from_length c.args.bytes.now (omega arith) ∙ sym (ap amount c.zero.ensures)
