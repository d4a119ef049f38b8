use Rattle.dag_cbor.proofs.OneFault.{one_fault}
use Rattle.dag_cbor.proofs.laws.one_fault.Goals as goal

pub returns : goal.returns
returns c = λ bytes a b is_a is_b. one_fault bytes a b is_a is_b
