-- What a tipset does: its blocks in their order, each one's messages in their order, then the block's award.
use Rattle.std.specs.Prelude.{ℕ, ◌+◌, ◌-◌, List, [], ◌∷◌, ◌++◌, bytes_eq, is_some, min, if◌then◌else◌}
use Rattle.std.specs.FinMap.{get}
use Rattle.std.specs.List.{list_any}
use Rattle.fil_base.specs.declared.token.TheConstants.{GREATEST_AMOUNT}
use Rattle.fil_message.specs.Layout.{message_spelling}
use Rattle.fil_message.specs.declared.message.Message.{Message}
use Rattle.fil_message.specs.declared.receipt.ReceiptLine.{ReceiptLine}
use Rattle.fil_message.specs.declared.tipset.TipBlock.{TipBlock}
use Rattle.fil_message.specs.declared.tipset.Tipset.{Tipset}
use Rattle.gas_prices.specs.declared.rules.Rules.{Rules}
use Rattle.state_model.specs.State.{State}
use Rattle.tipset_exec.specs.Balances.{burnt_funds_id, minted, moved, reward_id}
use Rattle.tipset_exec.specs.Messages.{Applied, applied}

-- what the messages so far did: the state, the receipts, the encodings that came, how many times code ran, and what the
-- miner of the block at hand gets and owes
pub record Run : Type 0 where
  pub state : State
  pub lines : List ReceiptLine
  pub came : List (List ℕ)
  pub invocations : ℕ
  pub tips : ℕ
  pub penalties : ℕ

-- a message at its place in its block; one whose encoding came before is passed over
abbrev pub with_message : Rules → Tipset → ℕ → Run → ℕ → Message → Run
with_message rules t b run i m =
    if list_any (bytes_eq (message_spelling m)) run.came then run else with_applied (applied rules t run.state m) where
      with_applied : Applied → Run
      with_applied done = record {
        state = done.state;
        lines = run.lines ++ (record { block = b; message = i; receipt = done.receipt } ∷ []);
        came = message_spelling m ∷ run.came;
        invocations = run.invocations + done.invocations;
        tips = run.tips + done.tip;
        penalties = min (run.penalties + done.penalty) GREATEST_AMOUNT;
      }

-- messages from a place on
unfoldable pub with_messages : Rules → Tipset → ℕ → Run → ℕ → List Message → Run
with_messages rules t b run i [] = run
with_messages rules t b run i (m ∷ ms) =
    with_messages rules t b (with_message rules t b run i m) (i + 1) ms

-- who gets what a block earns: its miner, if that is an actor, else the burnt funds
abbrev pub payee : State → ℕ → ℕ
payee s miner = if is_some (get s.actors miner) then miner else burnt_funds_id

-- the award is minted; of it and the tips the penalties are burned, and the rest is the payee's
abbrev pub awarded : State → TipBlock → ℕ → ℕ → State
awarded s b tips penalties =
    moved (moved (minted s b.award) reward_id burnt_funds_id owed) reward_id (payee s b.miner) (b.award + tips - owed) where
      owed : ℕ
      owed = min (b.award + tips) penalties

-- a block at its place
abbrev pub with_block : Rules → Tipset → Run → ℕ → TipBlock → Run
with_block rules t run b block =
    rewarded (with_messages rules t b (record run { tips = 0; penalties = 0 }) 0 block.messages) where
      rewarded : Run → Run
      rewarded run = record run { state = awarded run.state block run.tips run.penalties }

-- blocks from a place on
unfoldable pub with_blocks : Rules → Tipset → Run → ℕ → List TipBlock → Run
with_blocks rules t run b [] = run
with_blocks rules t run b (block ∷ blocks) =
    with_blocks rules t (with_block rules t run b block) (b + 1) blocks

-- nothing ran yet
abbrev pub begun : State → Run
begun s = record { state = s; lines = []; came = []; invocations = 0; tips = 0; penalties = 0 }

-- what a tipset does to a state
abbrev pub tipset_run : Rules → State → Tipset → Run
tipset_run rules s t = with_blocks rules t (begun s) 0 t.blocks
