-- How the code's progress follows a run.
use Rattle.std.proofs.Common.{◌≡◌, ℕ, ◌+◌, List, [], ◌∷◌, ◌++◌, Result, Ok, Err, OnOk, map, min, refl, sym, subst, ◌∙◌, arith}
use Rattle.cid_core.specs.BlockParts.{BlockParts}
use Rattle.fil_base.specs.declared.token.TheConstants.{GREATEST_AMOUNT}
use Rattle.fil_message.specs.Layout.{message_spelling}
use Rattle.fil_message.specs.declared.message.Message.{Message}
use Rattle.fil_message.specs.declared.receipt.Receipt.{Receipt}
use Rattle.fil_message.specs.declared.receipt.ReceiptLine.{ReceiptLine}
use Rattle.fil_message.specs.declared.tipset.TipBlock.{TipBlock}
use Rattle.tipset_exec.specs.Ends.{IsOutcome}
use Rattle.tipset_exec.specs.Messages.{Applied}
use Rattle.tipset_exec.specs.Progress.{HaveCome, StandsFor}
use Rattle.tipset_exec.specs.Stands.{Stands}
use Rattle.tipset_exec.specs.Tipsets.{Run, awarded}
use Rattle.tipset_exec.specs.declared.ledger.Ledger.{Ledger}
use Rattle.tipset_exec.specs.declared.message.Outcome.{Outcome}
use Rattle.tipset_exec.specs.declared.tipset.Progress.{Progress}
use Rattle.tipset_exec.proofs.RunSteps.{added}

-- ---- a message

abbrev line_of : ℕ → ℕ → Outcome → ReceiptLine
line_of b i outcome = record { block = b; message = i; receipt = record { exit = outcome.exit; returned = []; used = outcome.used } }

same_line : (b i : ℕ) (outcome : Outcome) (receipt : Receipt) → outcome.exit ≡ receipt.exit → receipt.returned ≡ [] → outcome.used ≡ receipt.used → line_of b i outcome ≡ record { block = b; message = i; receipt = receipt }
same_line b i outcome receipt exit returned used = λ k. record { block = b; message = i; receipt = record { exit = exit k; returned = sym returned k; used = used k } }

added_stands : (before after : Progress) (ledger : Ledger) (blocks : List BlockParts) (run : Run) (b i : ℕ) (m : Message) (outcome : Outcome) (done : Applied) → StandsFor before blocks run → IsOutcome outcome ledger blocks done
    → HaveCome (map (λ k. k.items) after.came.keys) (message_spelling m ∷ run.came) → after.ledger ≡ ledger → after.lines.items ≡ before.lines.items ++ line_of b i outcome ∷ [] → after.tips ≡ before.tips + outcome.tip
    → after.penalties ≡ min (before.penalties + outcome.penalty) GREATEST_AMOUNT → StandsFor after blocks (added b run i m done)
added_stands before after ledger blocks run b i m outcome done stands is came same lines tips penalties = record {
  ledger = subst (λ (l : Ledger). Stands l blocks done.state) (sym same) is.state;
  lines = lines ∙ (λ k. stands.lines k ++ same_line b i outcome done.receipt is.exit is.returned is.used k ∷ []);
  came = came;
  invocations = omega (arith, stands.invocations, is.invocations);
  tips = tips ∙ (λ k. stands.tips k + is.tip k);
  penalties = penalties ∙ (λ k. min (stands.penalties k + is.penalty k) GREATEST_AMOUNT);
}

pub recorded : {T E : Type 0} (result : Result T E) (before after : Progress) (ledger : Ledger) (blocks : List BlockParts) (run next : Run) (b i : ℕ) (m : Message) (outcome : Outcome) (done : Applied) → StandsFor before blocks run
    → IsOutcome outcome ledger blocks done → next ≡ added b run i m done → HaveCome (map (λ k. k.items) after.came.keys) (message_spelling m ∷ run.came) → after.ledger ≡ ledger
    → OnOk result (after.lines.items ≡ before.lines.items ++ line_of b i outcome ∷ []) → OnOk result (after.tips ≡ before.tips + outcome.tip)
    → OnOk result (after.penalties ≡ min (before.penalties + outcome.penalty) GREATEST_AMOUNT) → OnOk result (StandsFor after blocks next)
recorded (Ok x) before after ledger blocks run next b i m outcome done stands is new came same lines tips penalties =
    subst (StandsFor after blocks) (sym new) (added_stands before after ledger blocks run b i m outcome done stands is came same lines tips penalties)
recorded (Err e) before after ledger blocks run next b i m outcome done stands is new came same lines tips penalties = tt

-- ---- a block

pub reset_stands : (progress : Progress) (blocks : List BlockParts) (run : Run) → StandsFor progress blocks run → StandsFor (record progress { tips = 0; penalties = 0 }) blocks (record run { tips = 0; penalties = 0 })
reset_stands progress blocks run is = record {
  ledger = is.ledger;
  lines = is.lines;
  came = is.came;
  invocations = is.invocations;
  tips = refl;
  penalties = refl;
}

pub awarded_stands : (progress : Progress) (ledger : Ledger) (blocks : List BlockParts) (run : Run) (block : TipBlock) → StandsFor progress blocks run → Stands ledger blocks (awarded run.state block progress.tips progress.penalties)
    → StandsFor (record progress { ledger = ledger }) blocks (record run { state = awarded run.state block run.tips run.penalties })
awarded_stands progress ledger blocks run block is paid = record {
  ledger = subst (Stands ledger blocks) (λ i. awarded run.state block (is.tips i) (is.penalties i)) paid;
  lines = is.lines;
  came = is.came;
  invocations = is.invocations;
  tips = is.tips;
  penalties = is.penalties;
}
