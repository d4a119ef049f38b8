-- The report on a run.
use Rattle.std.proofs.Common.{◌≡◌, ℕ, List, [], ◌++◌, map, sym, ap, ◌∙◌}
use Rattle.std.specs.Prelude.{sum}
use Rattle.fil_base.specs.CidParts.{CidParts}
use Rattle.cid_core.specs.BlockParts.{BlockParts}
use Rattle.amt_map.specs.Node.{amt_nodes, amt_root}
use Rattle.fil_message.specs.declared.receipt.ReceiptLine.{ReceiptLine}
use Rattle.state_model.specs.State.{state_nodes, state_root}
use Rattle.tree_blocks.specs.NewBlocks.{new_blocks}
use Rattle.tipset_exec.specs.Alone.{blocks_made, receipts_of, report_on}
use Rattle.tipset_exec.specs.Tipsets.{Run}

pub report_is : (blocks : List BlockParts) (epoch : ℕ) (run : Run) (lines : List ReceiptLine) (receipts state : CidParts) (gas minted burned : ℕ) (made : List CidParts) → lines ≡ run.lines → receipts ≡ amt_root (receipts_of run.lines)
    → state ≡ state_root run.state → gas ≡ sum (map (λ l. l.receipt.used) run.lines) → minted ≡ run.state.minted → burned ≡ run.state.burned → run.invocations ≡ 0 → made ≡ map (λ b. b.cid) (blocks_made blocks run)
    → record { epoch = epoch; lines = lines; receipts_root = receipts; state_root = state; gas = gas; minted = minted; burned = burned; invocations = 0; made = made } ≡ report_on blocks epoch run
report_is blocks epoch run lines receipts state gas minted burned made lines-is receipts-is state-is gas-is minted-is burned-is none made-is = λ i. record {
  epoch = epoch;
  lines = lines-is i;
  receipts_root = receipts-is i;
  state_root = state-is i;
  gas = gas-is i;
  minted = minted-is i;
  burned = burned-is i;
  invocations = sym none i;
  made = made-is i;
}

-- the blocks of the receipts' tree and of the state are all, where none were made before
pub all_made : (blocks : List BlockParts) (run : Run) (all : List BlockParts) → run.state.made ≡ [] → all ≡ new_blocks blocks (amt_nodes (receipts_of run.lines) ++ state_nodes run.state) → all ≡ blocks_made blocks run
all_made blocks run all none is = is ∙ ap (λ (made : List BlockParts). new_blocks blocks (made ++ (amt_nodes (receipts_of run.lines) ++ state_nodes run.state))) (sym none)
