use Rattle.std.proofs.Common.{take, subst, ap, ◌∙◌, arith}
use Rattle.std.proofs.lemmas.List.{take_all}
use Rattle.std.specs.FinMap.{insert}
use Rattle.amt_map.specs.Pairs.{Map}
use Rattle.amt_map.specs.Stands.{Stands}
use Rattle.dag_cbor.specs.declared.value.Value.{Value}
use Rattle.tipset_exec.specs.Alone.{receipts_of}
use Rattle.tipset_exec.proofs.ReceiptPlaces.{one_more_receipt}
use Rattle.tipset_exec.proofs.receipts.receipts_tree.Goals as goal

pub set-requires-clause-index : goal.set-requires-clause-index
set-requires-clause-index c = omega (arith, c.loop-i-test.true, c.requires)

pub loop-i-preserved : goal.loop-i-preserved
loop-i-preserved c =
    let lines = c.args.lines.now in
    let i = c.loop-i.i in
    let item = c.index-lines-i.result in
    let front = receipts_of (take i lines) in
    let more = ap (λ (v : Value). insert front i v) c.in_ok-value.ensures.value ∙ one_more_receipt lines i item c.loop-i-test.true c.index-lines-i.is in
    subst (λ (m : Map). Stands c.set.new.self c.args.base.now m) more (c.in_ok-set.ensures.after front c.loop-i.invariant)

pub returns-clause-root : goal.returns-clause-root
returns-clause-root c =
    let lines = c.args.lines.now in
    let all = take_all c.loop-i.i lines (omega (arith, c.loop-i-test.false)) in
    c.flush.ensures.root (receipts_of lines) (subst (λ (m : Map). Stands c.loop-i.tree c.args.base.now m) (ap receipts_of all) c.loop-i.invariant)

pub returns-clause-nodes : goal.returns-clause-nodes
returns-clause-nodes c =
    let lines = c.args.lines.now in
    let all = take_all c.loop-i.i lines (omega (arith, c.loop-i-test.false)) in
    c.flush.ensures.nodes (receipts_of lines) (subst (λ (m : Map). Stands c.loop-i.tree c.args.base.now m) (ap receipts_of all) c.loop-i.invariant)
