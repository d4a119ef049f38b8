use Rattle.std.proofs.Common.{arith}
use Rattle.fvm_run.specs.declared.command.Command.TheVariants.{Check}
use Rattle.fvm_run.proofs.Ends.{read_exit, stop_of}
use Rattle.fvm_run.proofs.wasm_module.check_text.Goals as goal

pub returns-clause-stop : goal.returns-clause-stop
returns-clause-stop g c =
    stop_of Check _ _ _ _ c.in_ok-input.input.items c.text_of_module.result c.in_ok-input.ensures.whole c.in_ok-input.ensures.at_end
    (omega (arith, c.in_ok-input.ensures.limit, c.in_ok-input.input.ok.0)) c.text_of_module.ensures.refused

pub returns-in_err-input-clause-stop : goal.returns-in_err-input-clause-stop
returns-in_err-input-clause-stop g c = read_exit _ _ c.from_residual.result c.from_residual.ensures.1 (c.in_err-input.ensures.stop Check)
