use Rattle.dag_cbor.proofs.OneSpelling.{one_spelling}
use Rattle.dag_cbor.proofs.laws.one_spelling.Goals as goal

pub returns : goal.returns
returns c = λ x y r s plain-x plain-y same. one_spelling x y r s plain-x plain-y same
