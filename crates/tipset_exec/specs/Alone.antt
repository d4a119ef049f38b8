-- The report on a tipset that a machine of one thread gives alone, over the loaded blocks.
use Rattle.std.specs.Prelude.{◌≡◌, ◌==◌, ◌&&◌, ℕ, Bool, true, List, ◌++◌, is_some, length, map, nat_le, sum}
use Rattle.std.specs.FinMap.{from_entries}
use Rattle.std.specs.List.{enumerate_from, list_all}
use Rattle.std.specs.declared.result.Result.TheVariants.{Ok}
use Rattle.cid_core.specs.BlockParts.{BlockParts}
use Rattle.amt_map.specs.Node.{amt_nodes, amt_root}
use Rattle.amt_map.specs.Pairs.{Map}
use Rattle.fil_address.specs.declared.address.Address.{Address}
use Rattle.fil_address.specs.declared.address.Address.TheVariants.{Id, Secp, Made, Bls}
use Rattle.fil_message.specs.Layout.{receipt_value}
use Rattle.fil_message.specs.Tipsets.{IsRules, IsTipset, awards}
use Rattle.fil_message.specs.declared.message.Message.{Message}
use Rattle.fil_message.specs.declared.receipt.ReceiptLine.{ReceiptLine}
use Rattle.fil_message.specs.declared.tipset.Report.{Report}
use Rattle.fil_message.specs.declared.tipset.Tipset.{Tipset}
use Rattle.gas_prices.specs.declared.rules.Rules.{Rules}
use Rattle.init_names.specs.Resolving.{resolved}
use Rattle.state_model.specs.State.{State, all_below_next, has_room_for, state_nodes, state_root}
use Rattle.state_model.specs.StateAt.{state_at}
use Rattle.tree_blocks.specs.NewBlocks.{new_blocks}
use Rattle.tipset_exec.specs.Tipsets.{Run, tipset_run}

-- the receipts by their places
abbrev pub receipts_of : List ReceiptLine → Map
receipts_of lines = from_entries (enumerate_from 0 (map (λ l. receipt_value l.receipt) lines))

-- the blocks that a run made and that a base does not hold: its own, those of the receipts, and those of the state
abbrev pub blocks_made : List BlockParts → Run → List BlockParts
blocks_made blocks run = new_blocks blocks (run.state.made ++ (amt_nodes (receipts_of run.lines) ++ state_nodes run.state))

-- the report on a run
abbrev pub report_on : List BlockParts → ℕ → Run → Report
report_on blocks epoch run = record {
  epoch = epoch;
  lines = run.lines;
  receipts_root = amt_root (receipts_of run.lines);
  state_root = state_root run.state;
  gas = sum (map (λ l. l.receipt.used) run.lines);
  minted = run.state.minted;
  burned = run.state.burned;
  invocations = run.invocations;
  made = map (λ b. b.cid) (blocks_made blocks run);
}

-- a tipset over blocks and the state under its root
unfoldable pub alone : List BlockParts → Rules → State → Tipset → Report
alone blocks rules s t = report_on blocks t.epoch (tipset_run rules s t)

-- and the blocks that it made
unfoldable pub alone_blocks : List BlockParts → Rules → State → Tipset → List BlockParts
alone_blocks blocks rules s t = blocks_made blocks (tipset_run rules s t)

-- a tipset that can be evaluated: rules and tipset are in their ranges, its state loads, all IDs are below its next one, and
-- there is room for the awards
pub record IsEvaluable (blocks : List BlockParts) (r : Rules) (t : Tipset) (s : State) : Type 0 where
  pub rules : IsRules r
  pub tipset : IsTipset t
  pub loaded : state_at blocks t.root r.codes ≡ Ok s
  pub below : all_below_next s ≡ true
  pub room : has_room_for (awards t) s ≡ true

-- a name for which no account would have to be made
abbrev pub has_account : State → Address → Bool
has_account s (Id id) = true
has_account s (Secp hash) = is_some (resolved s.names (Secp hash))
has_account s (Made hash) = true
has_account s (Bls key) = is_some (resolved s.names (Bls key))

-- a message that moves a value alone
abbrev pub is_transfer : State → Message → Bool
is_transfer s m = m.method == 0 && has_account s m.to

-- a tipset that this version evaluates: it has one block at most, whose messages move values alone
abbrev pub is_built : State → Tipset → Bool
is_built s t = nat_le (length t.blocks) 1 && list_all (λ b. list_all (is_transfer s) b.messages) t.blocks
