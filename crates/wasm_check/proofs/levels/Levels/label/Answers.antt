use Rattle.std.proofs.Common.{sym, ◌∙◌}
use Rattle.wasm_check.specs.declared.fault.CheckKind.TheVariants as kinds
use Rattle.wasm_check.specs.Machine.{label_of}
use Rattle.wasm_check.proofs.Labels.{outer_read}
use Rattle.wasm_check.proofs.levels.Levels.label.Goals as goal

pub returns : goal.returns
returns c =
    sym (outer_read label_of kinds.Label c.args.self.now c.self.inside.current c.self.inside.outer.items c.len.result c.len-2.result c.args.label c.index.result.now
    c.label_type-2.result c.self.view_is (c.len.ensures ∙ c.self.inside.outer.ok.0) (c.len-2.ensures ∙ c.self.inside.outer.ok.0) c.if-depth-eq0.false
    c.if-depth-len.false c.index.ensures c.label_type-2.ensures)
