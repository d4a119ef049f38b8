use Rattle.std.proofs.Common.{rules}
use Rattle.wasm_check.proofs.ReadBodies.{not_valid}
use Rattle.wasm_check.proofs.Readable.{readable}
use Rattle.wasm_check.proofs.checking.check.Goals as goal

pub judge_module-requires : goal.judge_module-requires
judge_module-requires c = record { readable = readable c.requires.spelled.0 c.args.raw c.requires.spelled.1 }

pub returns-in_err-judge_module-clause-only : goal.returns-in_err-judge_module-clause-only
returns-in_err-judge_module-clause-only c = not_valid c.args.raw c.from_residual.result (search rules)
