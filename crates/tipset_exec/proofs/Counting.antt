-- How many receipts a tipset has, and how much gas they have.
use Rattle.std.proofs.Common.{ℕ, ◌+◌, ◌*◌, ◌≤◌, List, [], ◌∷◌, ◌++◌, length, length-append, arith}
use Rattle.std.proofs.lemmas.List.Elements.{All-head, All-tail}
use Rattle.std.proofs.lemmas.List.Sums.{sum-map, sum_by_push}
use Rattle.std.specs.Prelude.{All}
use Rattle.std.specs.List.{sum_by}
use Rattle.fil_message.specs.Sound.{IsMessage}
use Rattle.fil_message.specs.Tipsets.{IsShortMessage, IsTipBlock, IsTipset}
use Rattle.fil_message.specs.declared.message.Message.{Message}
use Rattle.fil_message.specs.declared.receipt.ReceiptLine.{ReceiptLine}
use Rattle.fil_message.specs.declared.tipset.TipBlock.{TipBlock}
use Rattle.fil_message.specs.declared.tipset.Tipset.{Tipset}
use Rattle.gas_prices.specs.declared.rules.Rules.{Rules}
use Rattle.state_model.specs.State.{State}
use Rattle.tipset_exec.specs.Messages.{applied}
use Rattle.tipset_exec.specs.Progress.{AreCountable}
use Rattle.tipset_exec.specs.Tipsets.{Run, begun, tipset_run, with_block, with_blocks, with_message, with_messages}
use Rattle.tipset_exec.proofs.Applying.{applied_used}
use Rattle.tipset_exec.proofs.RunSteps.{message_is}

used : ReceiptLine → ℕ
used l = l.receipt.used

-- at most so many, each with at most 10^10 units of gas
record IsCounted (n : ℕ) (lines : List ReceiptLine) : Type 0 where
  few : length lines ≤ n
  gas : sum_by (λ l. l.receipt.used) lines ≤ 10000000000 * n

more_counted : (n k : ℕ) (lines : List ReceiptLine) → n ≤ k → IsCounted n lines → IsCounted k lines
more_counted n k lines fits is = record { few = omega (arith, is.few); gas = omega (arith, is.gas) }

push_counted : (n : ℕ) (lines : List ReceiptLine) (l : ReceiptLine) → l.receipt.used ≤ 10000000000 → IsCounted n lines → IsCounted (n + 1) (lines ++ l ∷ [])
push_counted n lines l small is = record {
  few = omega (arith, is.few, length-append lines (l ∷ []));
  gas = omega (arith, is.gas, small, sum_by_push (λ (x : ReceiptLine). x.receipt.used) lines l);
}

message_counted : (rules : Rules) (t : Tipset) (b : ℕ) (run : Run) (i : ℕ) (m : Message) (n : ℕ) → IsMessage m → IsCounted n run.lines → IsCounted (n + 1) (with_message rules t b run i m).lines
message_counted rules t b run i m n good is =
    let done = applied rules t run.state m in
    message_is (λ r. IsCounted (n + 1) r.lines) rules t b run i m (more_counted n (n + 1) run.lines (omega arith) is)
    (push_counted n run.lines (record { block = b; message = i; receipt = done.receipt }) (omega (arith, applied_used rules t run.state m, good.limit)) is)

messages_counted : (rules : Rules) (t : Tipset) (b : ℕ) (run : Run) (i : ℕ) (ms : List Message) (n : ℕ) → All IsShortMessage ms → IsCounted n run.lines → IsCounted (n + length ms) (with_messages rules t b run i ms).lines
unfolding with_messages
messages_counted rules t b run i [] n good is = more_counted n (n + 0) run.lines (omega arith) is
messages_counted rules t b run i (m ∷ ms) n good is =
    let next = with_message rules t b run i m in
    more_counted ((n + 1) + length ms) (n + length (m ∷ ms)) (with_messages rules t b next (i + 1) ms).lines (omega arith)
    (messages_counted rules t b next (i + 1) ms (n + 1) (All-tail IsShortMessage m ms good) (message_counted rules t b run i m n (All-head IsShortMessage m ms good).0 is))

block_counted : (rules : Rules) (t : Tipset) (run : Run) (b : ℕ) (block : TipBlock) (n : ℕ) → IsTipBlock block → IsCounted n run.lines → IsCounted (n + 10000) (with_block rules t run b block).lines
block_counted rules t run b block n good is =
    let start : Run = record run { tips = 0; penalties = 0 } in
    more_counted (n + length block.messages) (n + 10000) (with_messages rules t b start 0 block.messages).lines (omega (arith, good.count))
    (messages_counted rules t b start 0 block.messages n good.messages is)

blocks_counted : (rules : Rules) (t : Tipset) (run : Run) (b : ℕ) (blocks : List TipBlock) (n : ℕ) → All IsTipBlock blocks → IsCounted n run.lines → IsCounted (n + 10000 * length blocks) (with_blocks rules t run b blocks).lines
unfolding with_blocks
blocks_counted rules t run b [] n good is = more_counted n (n + 10000 * 0) run.lines (omega arith) is
blocks_counted rules t run b (block ∷ blocks) n good is =
    let next = with_block rules t run b block in
    more_counted ((n + 10000) + 10000 * length blocks) (n + 10000 * length (block ∷ blocks)) (with_blocks rules t next (b + 1) blocks).lines (omega arith)
    (blocks_counted rules t next (b + 1) blocks (n + 10000) (All-tail IsTipBlock block blocks good) (block_counted rules t run b block n (All-head IsTipBlock block blocks good) is))

-- the receipts of a tipset can be counted
pub tipset_counted : (rules : Rules) (s : State) (t : Tipset) → IsTipset t → AreCountable (tipset_run rules s t).lines
tipset_counted rules s t good =
    let none : IsCounted 0 (begun s).lines = record { few = omega arith; gas = omega arith } in
    let all = blocks_counted rules t (begun s) 0 t.blocks 0 good.blocks none in
    let count = good.count in
    let lines = (tipset_run rules s t).lines in
    record {
      few = omega (arith, all.few, count);
      gas = omega (arith, all.gas, count, sum-map (λ (l : ReceiptLine). l.receipt.used) lines);
    }
