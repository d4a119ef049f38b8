use Rattle.std.proofs.Common.{rules}
use Rattle.std.proofs.lemmas.Slice.Eq.{slice_eq-Decides}
use Rattle.wasm_types.proofs.func_type.same_params.Goals as goal

pub returns : goal.returns
returns c = slice_eq-Decides (λ a b. search rules) c.args.params.now c.args.others.now c.eq.result c.eq.ensures
