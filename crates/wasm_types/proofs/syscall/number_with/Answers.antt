use Rattle.std.proofs.Common.{rules, sym, ◌∙◌}
use Rattle.wasm_types.specs.Syscalls.{call_of}
use Rattle.wasm_types.proofs.Calls.{begun, passed, met, ended}
use Rattle.wasm_types.proofs.syscall.number_with.Goals as goal

pub loop-number-init : goal.loop-number-init
loop-number-init c = begun c.args.module_name.now c.args.name.now

pub loop-number-preserved : goal.loop-number-preserved
loop-number-preserved c = passed c.args.module_name.now c.args.name.now c.loop-number.number (call_of c.row_at.result) c.row_at.ensures (sym c.has_names.ensures ∙ c.if-has_names.false) c.loop-number.invariant

pub returns-then-has_names : goal.returns-then-has_names
returns-then-has_names c = met c.args.module_name.now c.args.name.now c.loop-number.number (call_of c.row_at.result) c.row_at.ensures (sym c.has_names.ensures ∙ c.if-has_names.true) c.loop-number.invariant

pub returns : goal.returns
returns c = ended c.args.module_name.now c.args.name.now c.loop-number.number (search rules) c.loop-number.invariant
