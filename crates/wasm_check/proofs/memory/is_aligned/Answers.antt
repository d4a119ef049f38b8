use Rattle.std.proofs.Common.{arith}
use Rattle.wasm_check.proofs.Alignments.{above_all}
use Rattle.wasm_check.proofs.memory.is_aligned.Goals as goal

pub returns-in_default : goal.returns-in_default
returns-in_default c = above_all c.args.align c.args.width (omega arith) c.requires
