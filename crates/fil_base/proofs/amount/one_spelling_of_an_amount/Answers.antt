use Rattle.fil_base.proofs.Magnitude.{same_amounts, refused_is_no_amount}
use Rattle.fil_base.proofs.amount.one_spelling_of_an_amount.Goals as goal

pub returns-clause-one : goal.returns-clause-one
returns-clause-one c = same_amounts

pub returns-clause-refused : goal.returns-clause-refused
returns-clause-refused c = refused_is_no_amount
