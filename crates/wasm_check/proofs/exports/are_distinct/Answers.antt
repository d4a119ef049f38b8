use Rattle.wasm_check.specs.Modules.{are_distinct}
use Rattle.wasm_check.proofs.Names.{apart_again, apart_first, apart_more, apart_whole}
use Rattle.wasm_check.proofs.exports.are_distinct.Goals as goal

pub loop-export-init : goal.loop-export-init
loop-export-init c = apart_first c.new-names.result.keys c.args.exports.now c.new-names.ensures.empty

pub returns-then-not-is_new : goal.returns-then-not-is_new
returns-then-not-is_new c =
    apart_again c.loop-export.names.keys c.as_slice.result.now c.args.exports.now c.loop-export.export-index c.export-item.result (are_distinct c.args.exports.now) c.in_ok-is_new.is_new
    c.loop-export-test.true c.export-item.is c.as_slice.ensures c.loop-export.invariant c.in_ok-is_new.ensures.added c.if-not-is_new.true

pub loop-export-preserved : goal.loop-export-preserved
loop-export-preserved c =
    apart_more c.loop-export.names.keys c.insert.new.self.keys c.as_slice.result c.args.exports.now c.loop-export.export-index c.export-item.result (are_distinct c.args.exports.now) c.in_ok-is_new.is_new
    c.loop-export-test.true c.export-item.is c.as_slice.ensures c.loop-export.invariant c.in_ok-is_new.ensures.added c.if-not-is_new.false c.in_ok-is_new.ensures.keys

pub returns : goal.returns
returns c = apart_whole c.loop-export.names.keys c.args.exports.now c.loop-export.export-index (are_distinct c.args.exports.now) c.loop-export.invariant c.loop-export-test.false
