use Rattle.std.proofs.lemmas.Result.{err_from_is_err_and}
use Rattle.wasm_decode.proofs.Modules.{module_begun, no_magic, no_version}
use Rattle.wasm_decode.proofs.module_sections.module_of.Goals as goal

pub returns-in_err-behind_magic : goal.returns-in_err-behind_magic
returns-in_err-behind_magic c =
    let p = err_from_is_err_and c.from_residual.result c.from_residual.ensures.1 in
    rw (p.1, p.2) (no_magic c.args.bytes.now c.in_err-behind_magic.field-0.0 c.in_err-behind_magic.ensures)

pub returns-in_err-behind_version : goal.returns-in_err-behind_version
returns-in_err-behind_version c =
    let p = err_from_is_err_and c.from_residual-in_err-behind_version.result c.from_residual-in_err-behind_version.ensures.1 in
    rw (p.1, p.2) (no_version c.args.bytes.now c.in_ok-behind_magic.behind_magic.now c.in_err-behind_version.field-0.0 c.in_ok-behind_magic.ensures c.in_err-behind_version.ensures)

pub returns : goal.returns
returns c = rw (module_begun c.args.bytes.now c.in_ok-behind_magic.behind_magic.now c.in_ok-behind_version.behind_version.now c.in_ok-behind_magic.ensures c.in_ok-behind_version.ensures) c.behind_header_of.ensures
