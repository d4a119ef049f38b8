use Rattle.std.proofs.Common.{ℕ, List, ap, subst, ◌∙◌}
use Rattle.wasm_decode.specs.Modules.{SpellsModule}
use Rattle.fvm_run.specs.Modules.{counts_line}
use Rattle.fvm_run.proofs.wasm_module.text_of_module.Goals as goal

pub returns-clause-text : goal.returns-clause-text
returns-clause-text c =
    let spells = subst (λ (bytes : List ℕ). SpellsModule bytes c.in_ok-raw.raw) c.deref.ensures.value c.in_ok-raw.ensures.found in
    let line = c.in_ok-text_of_counts.ensures ∙ ap counts_line c.in_ok-counts.ensures.valid.1 in
    (c.in_ok-raw.raw, spells, c.in_ok-counts.ensures.valid.0, line)
