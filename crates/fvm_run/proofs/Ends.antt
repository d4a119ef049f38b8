-- The status with which a command ends.
use Rattle.std.proofs.Common.{◌≡◌, ◌⊎◌, ℕ, ◌≤◌, List, [], length, Option, Some, Result, Ok, Err, IfOk, IfErr, IsErrAnd, IsOkAnd, OnOk, OnErr, inl, inr, refl, sym, subst, ◌∙◌}
use Rattle.std.specs.Io.KnownBytes.{IsAtEnd}
use Rattle.outside_io.specs.Causes.{Rose}
use Rattle.fvm_run.specs.declared.command.Command.{Command}
use Rattle.fvm_run.specs.declared.status.Status.{Status}
use Rattle.fvm_run.specs.declared.status.Status.TheVariants as status
use Rattle.fvm_run.specs.declared.stop.Stop.{Stop}
use Rattle.fvm_run.specs.declared.stop.Stop.TheVariants.{ReadFailed, NoMemory, Refused}
use Rattle.fvm_run.specs.declared.command.Command.TheVariants.{Run, Check}
use Rattle.fvm_run.specs.declared.input.TheConstants.{INPUT_LIMIT}
use Rattle.fvm_run.specs.declared.refusal.Refusal.{Refusal}
use Rattle.fvm_run.specs.declared.refusal.Refusal.TheVariants as refusal
use Rattle.fvm_run.specs.Answers.{Answers, Had, IsAnswerWithin}
use Rattle.fvm_run.specs.Stops.{HasCauseOfStop, IfRefused, status_of_stop}
use Rattle.fvm_run.specs.Headline.{AnswersText, HasReadAll, IsCauseOfRefusal, IsStatusOf}
use Rattle.fvm_run.specs.Lines.{cid_in_line, cid_in_refusal}

-- where neither the source nor the sink failed, the status is that of the answer, or there was no memory
pub complete_of : (words : Option Command) (command : Command) (left new : Option (List ℕ)) (before now : ℕ) (Failed : Type 0) (text : Result (List ℕ) Stop) (end : Status) →
    words ≡ Some command → IfOk text (λ t. Answers command left (Ok t)) → IfErr text (HasCauseOfStop command left new before now) →
    OnOk text ((end ≡ status.Done) ⊎ (end ≡ status.WriteFault)) → IfErr text (λ stop. (end ≡ status_of_stop stop) ⊎ (end ≡ status.NoMemory)) → (end ≡ status.WriteFault → Failed) →
    (Rose before now → ⊥) → (Failed → ⊥) → (end ≡ status.NoMemory) ⊎ IsStatusOf words left end
complete_of words command left new before now Failed (Ok text) end is answers stops written ended fault source sink =
    elim written [
      | inl done ↦ inr (subst (λ w. IsStatusOf w left end) (sym is) (Ok text, answers, done))
      | inr failed ↦ absurd (sink (fault failed))
    ]
complete_of words command left new before now Failed (Err ReadFailed) end is answers stops written ended fault source sink = absurd (source stops)
complete_of words command left new before now Failed (Err NoMemory) end is answers stops written ended fault source sink =
    elim ended [ inl same ↦ inl same | inr none ↦ inl none ]
complete_of words command left new before now Failed (Err (Refused refusal)) end is answers stops written ended fault source sink =
    elim ended [
      | inl same ↦ inr (subst (λ w. IsStatusOf w left end) (sym is) (Err refusal, stops.0, same))
      | inr none ↦ inl none
    ]

-- a sink that surely takes each text that may be the answer does not fail
pub calm_of : (words : Option Command) (command : Command) (left new : Option (List ℕ)) (before now sure : ℕ) (text : Result (List ℕ) Stop) →
    words ≡ Some command → IfOk text (λ t. Answers command left (Ok t)) → OnOk text (HasReadAll command new) →
    IfOk text (λ t. length t ≤ sure → now ≡ before) → OnErr text (now ≡ before) →
    ((t : List ℕ) → AnswersText words left new (λ u. u ≡ t) → length t ≤ sure) → now ≡ before
calm_of words command left new before now sure (Ok text) is answers read calm stopped enough =
    calm (enough text (subst (λ w. AnswersText w left new (λ u. u ≡ text)) (sym is) (text, answers, read, refl)))
calm_of words command left new before now sure (Err stop) is answers read calm stopped enough = stopped

-- the text of a command is the answer
pub text_of : (words : Option Command) (command : Command) (left new : Option (List ℕ)) (text : Result (List ℕ) Stop) (P : List ℕ → Type 0) →
    words ≡ Some command → IfOk text (λ t. Answers command left (Ok t)) → OnOk text (HasReadAll command new) → IsOkAnd text P → AnswersText words left new P
text_of words command left new (Ok text) P is answers read holds =
    subst (λ w. AnswersText w left new P) (sym is) (text, answers, read, holds)
text_of words command left new (Err stop) P is answers read holds = absurd holds

-- a refusal is the answer
pub refused_of : (words : Option Command) (command : Command) (left new : Option (List ℕ)) (before now : ℕ) (text : Result (List ℕ) Stop) (end : Status) →
    words ≡ Some command → IfErr text (HasCauseOfStop command left new before now) → OnOk text ((end ≡ status.Done) ⊎ (end ≡ status.WriteFault)) →
    IfErr text (λ stop. (end ≡ status_of_stop stop) ⊎ (end ≡ status.NoMemory)) → IsCauseOfRefusal words left new end
refused_of words command left new before now text end is stops written ended =
    subst (λ w. IsCauseOfRefusal w left new end) (sym is) (by text stops written ended)
  where
    ended_as : (e : Status) → end ≡ e → IsCauseOfRefusal (Some command) left new e → IsCauseOfRefusal (Some command) left new end
    ended_as e same = subst (IsCauseOfRefusal (Some command) left new) (sym same)

    by : (r : Result (List ℕ) Stop) → IfErr r (HasCauseOfStop command left new before now) → OnOk r ((end ≡ status.Done) ⊎ (end ≡ status.WriteFault)) →
        IfErr r (λ stop. (end ≡ status_of_stop stop) ⊎ (end ≡ status.NoMemory)) → IsCauseOfRefusal (Some command) left new end
    by (Ok text) stops (inl same) ended = ended_as status.Done same tt
    by (Ok text) stops (inr same) ended = ended_as status.WriteFault same tt
    by (Err ReadFailed) stops written (inl same) = ended_as status.ReadFault same tt
    by (Err ReadFailed) stops written (inr same) = ended_as status.NoMemory same tt
    by (Err NoMemory) stops written (inl same) = ended_as status.NoMemory same tt
    by (Err NoMemory) stops written (inr same) = ended_as status.NoMemory same tt
    by (Err (Refused refusal)) stops written (inl same) = ended_as (status.Refused refusal) same stops
    by (Err (Refused refusal)) stops written (inr same) = ended_as status.NoMemory same tt

-- what is not too long is not refused as too long
not_too_long : (asked : Command) (bytes : List ℕ) → IsAnswerWithin asked bytes (Err refusal.TooLong) → ⊥
not_too_long Run bytes answers = answers
not_too_long Check bytes answers = answers

-- the refusal of an input that was read to its end is the answer to it
pub stop_of : (asked : Command) (left new : Option (List ℕ)) (before now : ℕ) (bytes : List ℕ) (text : Result (List ℕ) Stop) → Had left bytes → IsAtEnd new → length bytes ≤ INPUT_LIMIT →
    IfErr text (IfRefused (λ refusal. IsAnswerWithin asked bytes (Err refusal))) → IfErr text (HasCauseOfStop asked left new before now)
stop_of asked left new before now bytes (Ok text) had end short answers = tt
stop_of asked left new before now bytes (Err ReadFailed) had end short answers = absurd answers
stop_of asked left new before now bytes (Err NoMemory) had end short answers = tt
stop_of asked left new before now bytes (Err (Refused refusal.TooLong)) had end short answers = absurd (not_too_long asked bytes answers)
stop_of asked left new before now bytes (Err (Refused (refusal.Car fault))) had end short answers = ((bytes, had, (short, answers)), end)
stop_of asked left new before now bytes (Err (Refused (refusal.Cbor fault))) had end short answers = ((bytes, had, (short, answers)), end)
stop_of asked left new before now bytes (Err (Refused (refusal.Form fault))) had end short answers = ((bytes, had, (short, answers)), end)
stop_of asked left new before now bytes (Err (Refused (refusal.Scenario fault))) had end short answers = ((bytes, had, (short, answers)), end)
stop_of asked left new before now bytes (Err (Refused (refusal.NotBuilt n))) had end short answers = ((bytes, had, (short, answers)), end)
stop_of asked left new before now bytes (Err (Refused (refusal.Wasm fault))) had end short answers = ((bytes, had, (short, answers)), end)
stop_of asked left new before now bytes (Err (Refused (refusal.Check fault))) had end short answers = ((bytes, had, (short, answers)), end)

-- the text of an input that was read to its end is the answer to it
pub answer_of : (asked : Command) (left : Option (List ℕ)) (bytes : List ℕ) (text : Result (List ℕ) Stop) → Had left bytes → length bytes ≤ INPUT_LIMIT →
    IfOk text (λ t. IsAnswerWithin asked bytes (Ok t)) → IfOk text (λ t. Answers asked left (Ok t))
answer_of asked left bytes (Ok text) had short answers = (bytes, had, (short, answers))
answer_of asked left bytes (Err stop) had short answers = tt

-- a refusal that is the answer of `check` has no CID in its line
check_has_no_cid : (left : Option (List ℕ)) (r : Refusal) → Answers Check left (Err r) → cid_in_refusal r ≡ []
check_has_no_cid left refusal.TooLong answers = refl
check_has_no_cid left (refusal.Car fault) answers = refl
check_has_no_cid left (refusal.Cbor fault) answers = refl
check_has_no_cid left (refusal.Form fault) answers = refl
check_has_no_cid left (refusal.Scenario fault) (bytes, had, (short, answers)) = absurd answers
check_has_no_cid left (refusal.NotBuilt n) answers = refl
check_has_no_cid left (refusal.Wasm fault) answers = refl
check_has_no_cid left (refusal.Check fault) answers = refl

-- nor has any other end of it
pub no_cid_of : (left new : Option (List ℕ)) (end : Status) → IsCauseOfRefusal (Some Check) left new end → cid_in_line end ≡ []
no_cid_of left new status.Done cause = refl
no_cid_of left new (status.Usage fault) cause = refl
no_cid_of left new (status.Refused r) cause = check_has_no_cid left r cause.0
no_cid_of left new status.ReadFault cause = refl
no_cid_of left new status.WriteFault cause = refl
no_cid_of left new status.NoMemory cause = refl

-- ---- the same by a command's words

pub words_text : (words : Option Command) (command : Command) (left new : Option (List ℕ)) (P : List ℕ → Type 0) (plain end kind : Status) →
    words ≡ Some command → end ≡ plain → (plain ≡ kind → AnswersText (Some command) left new P) → end ≡ kind → AnswersText words left new P
words_text words command left new P plain end kind is same answers ended =
    subst (λ w. AnswersText w left new P) (sym is) (answers (sym same ∙ ended))

pub words_complete : (words : Option Command) (command : Command) (left : Option (List ℕ)) (Source Sink : Type 0) (plain end : Status) →
    words ≡ Some command → end ≡ plain → ((Source → ⊥) → (Sink → ⊥) → (plain ≡ status.NoMemory) ⊎ IsStatusOf (Some command) left plain) →
    (Source → ⊥) → (Sink → ⊥) → (end ≡ status.NoMemory) ⊎ IsStatusOf words left end
words_complete words command left Source Sink plain end is same complete source sink =
    subst (λ w. (end ≡ status.NoMemory) ⊎ IsStatusOf w left end) (sym is)
    (subst (λ e. (e ≡ status.NoMemory) ⊎ IsStatusOf (Some command) left e) (sym same) (complete source sink))

pub words_calm : (words : Option Command) (command : Command) (left new : Option (List ℕ)) (before now sure : ℕ) → words ≡ Some command →
    (((t : List ℕ) → AnswersText (Some command) left new (λ u. u ≡ t) → length t ≤ sure) → now ≡ before) →
    ((t : List ℕ) → AnswersText words left new (λ u. u ≡ t) → length t ≤ sure) → now ≡ before
words_calm words command left new before now sure is calm enough =
    calm (λ t answers. enough t (subst (λ w. AnswersText w left new (λ u. u ≡ t)) (sym is) answers))

-- ---- exits

-- where reading stops, the command stops so
pub read_exit : {T : Type 0} (P : Stop → Type 0) (stop : Stop) (r : Result T Stop) → IsErrAnd r (λ e. e ≡ stop) → P stop → IfErr r P
read_exit P stop (Ok x) same holds = tt
read_exit P stop (Err e) same holds = subst P (sym same) holds
