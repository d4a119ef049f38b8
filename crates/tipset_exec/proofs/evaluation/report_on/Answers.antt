use Rattle.std.proofs.Common.{◌<◌, ◌^◌, List, length, map, sym, ap, subst, ◌∙◌, arith}
use Rattle.std.specs.Prelude.{sum}
use Rattle.fil_message.specs.declared.receipt.ReceiptLine.{ReceiptLine}
use Rattle.amt_map.specs.Node.{amt_nodes, amt_root}
use Rattle.cid_core.specs.BlockParts.{BlockParts}
use Rattle.state_model.specs.State.{state_nodes}
use Rattle.tree_blocks.specs.NewBlocks.{new_blocks}
use Rattle.tipset_exec.specs.Alone.{receipts_of}
use Rattle.tipset_exec.proofs.ReportSteps.{all_made, report_is}
use Rattle.tipset_exec.proofs.evaluation.report_on.Goals as goal

pub receipts_tree-requires : goal.receipts_tree-requires
receipts_tree-requires c =
    let lines = c.deref.ensures.value ∙ c.requires.1.lines in
    omega (arith, ap length lines, c.requires.2.few)

pub gas_of-gas-requires : goal.gas_of-gas-requires
gas_of-gas-requires c =
    let lines = c.deref-2.ensures.value ∙ c.requires.1.lines in
    subst (λ (ls : List ReceiptLine). sum (map (λ l. l.receipt.used) ls) < 2 ^ 64) (sym lines) c.requires.2.gas

pub returns-clause-report : goal.returns-clause-report
returns-clause-report c = λ run stands.
    let base = c.args.base.now in
    let lines = c.deref.ensures.value ∙ stands.lines in
    let counted = c.deref-2.ensures.value ∙ stands.lines in
    let receipts = c.in_ok-receipts_root.ensures.root ∙ ap (λ (ls : List ReceiptLine). amt_root (receipts_of ls)) lines in
    let gas = c.gas_of-gas.ensures ∙ ap (λ (ls : List ReceiptLine). sum (map (λ l. l.receipt.used) ls)) counted in
    let first = c.into_vec-blocks.ensures ∙ (c.in_ok-receipts_root.ensures.nodes ∙ ap (λ (ls : List ReceiptLine). new_blocks base (amt_nodes (receipts_of ls))) lines) in
    let both = c.in_ok-put_all_new.ensures base (amt_nodes (receipts_of run.lines)) (state_nodes run.state) first (c.in_ok-state_root.ensures.nodes run.state stands.ledger) in
    let all = all_made base run c.put_all_new.new.new.items stands.ledger.made both in
    let made = c.of-2.ensures ∙ (c.in_ok-made.ensures ∙ ap (λ (bs : List BlockParts). map (λ b. b.cid) bs) (c.deref-3.ensures.value ∙ all)) in
    report_is base c.args.epoch run c.of.result c.in_ok-receipts_root.receipts_root c.in_ok-state_root.state_root c.gas_of-gas.result c.minted-minted.result c.burned-burned.result c.of-2.result (c.of.ensures ∙ stands.lines) receipts
    (c.in_ok-state_root.ensures.root run.state stands.ledger) gas (c.minted-minted.ensures ∙ stands.ledger.minted) (c.burned-burned.ensures ∙ stands.ledger.burned) stands.invocations made

pub returns-clause-blocks : goal.returns-clause-blocks
returns-clause-blocks c = λ run stands.
    let base = c.args.base.now in
    let lines = c.deref.ensures.value ∙ stands.lines in
    let first = c.into_vec-blocks.ensures ∙ (c.in_ok-receipts_root.ensures.nodes ∙ ap (λ (ls : List ReceiptLine). new_blocks base (amt_nodes (receipts_of ls))) lines) in
    let both = c.in_ok-put_all_new.ensures base (amt_nodes (receipts_of run.lines)) (state_nodes run.state) first (c.in_ok-state_root.ensures.nodes run.state stands.ledger) in
    c.of-3.ensures ∙ all_made base run c.put_all_new.new.new.items stands.ledger.made both
