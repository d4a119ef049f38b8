-- What a command answers to an input: a text, or a refusal. It says nothing of how the input is read.
use Rattle.std.specs.Prelude.{◌≡◌, ◌⊎◌, ℕ, ◌<◌, ◌≤◌, List, ◌∷◌, length, Option, IfSome, Result, Ok, Err}
use Rattle.dag_cbor.specs.declared.value.Value.{Value}
use Rattle.dag_cbor.specs.declared.decoding.TheConstants.{MAX_DEPTH}
use Rattle.dag_cbor.specs.Plain.{IsPlain}
use Rattle.dag_cbor.specs.Spelling.{spelled}
use Rattle.dag_cbor.specs.Faults.{IsFault}
use Rattle.fil_message.specs.declared.form0.Form0.{Form0}
use Rattle.fil_message.specs.Form0Layout.{form_value}
use Rattle.fil_message.specs.Form0Reading.{form0_of}
use Rattle.fil_message.specs.Form0Sound.{IsForm0}
use Rattle.report_text.specs.Form0Text.{form0_text}
use Rattle.car_file.specs.CarFault.{IsCarFault}
use Rattle.tipset_exec.specs.Report.{report_of}
use Rattle.wasm_decode.specs.ReadingModule.{decoded}
use Rattle.fvm_run.specs.Cars.{HasScenarioFault, IsNotBuilt, IsTextOf, OfScenario}
use Rattle.fvm_run.specs.Modules.{HasCheckFault, IsModuleText}
use Rattle.fvm_run.specs.declared.command.Command.{Command}
use Rattle.fvm_run.specs.declared.command.Command.TheVariants as command
use Rattle.fvm_run.specs.declared.input.TheConstants.{INPUT_LIMIT}
use Rattle.fvm_run.specs.declared.refusal.Refusal.{Refusal}
use Rattle.fvm_run.specs.declared.refusal.Refusal.TheVariants.{TooLong, Car, Cbor, Form, Scenario, NotBuilt, Wasm, Check}

-- the input begins with the head of a list of four items and the integer 0
abbrev pub BeginsAsList : List ℕ → Type 0
BeginsAsList input = (rest : List ℕ) × (input ≡ 0x84 ∷ (0 ∷ rest))

-- the input is DAG-CBOR for the value
pub record Spells (input : List ℕ) (value : Value) : Type 0 where
  pub plain : IsPlain MAX_DEPTH value
  pub bytes : input ≡ spelled value

-- the text of the report of the account list that the input spells
abbrev pub IsListText : List ℕ → List ℕ → Type 0
IsListText input text = (form : Form0) × IsForm0 form × Spells input (form_value form) × (text ≡ form0_text (report_of form))

-- the answer of `run` to an input that is not too long. One that begins as a list is an account list: the text of its
-- report; else its first fault, as DAG-CBOR or as an account list. Every other is a CAR file: the text of the reports on
-- its scenario; else the first fault of the file, or of the scenario; or a tipset is not evaluated
abbrev pub IsRunAnswer : List ℕ → Result (List ℕ) Refusal → Type 0
IsRunAnswer input (Ok text) = (BeginsAsList input × IsListText input text) ⊎ ((BeginsAsList input → ⊥) × OfScenario input (λ blocks s. IsTextOf blocks s text))
IsRunAnswer input (Err (Car fault)) = (BeginsAsList input → ⊥) × IsCarFault input fault
IsRunAnswer input (Err (Cbor fault)) = BeginsAsList input × IsFault input fault
IsRunAnswer input (Err (Form fault)) = BeginsAsList input × (value : Value) × Spells input value × (form0_of value ≡ Err fault)
IsRunAnswer input (Err (Scenario fault)) = (BeginsAsList input → ⊥) × HasScenarioFault input fault
IsRunAnswer input (Err (NotBuilt n)) = (BeginsAsList input → ⊥) × OfScenario input (λ blocks s. IsNotBuilt blocks s n)
IsRunAnswer input (Err refusal) = ⊥

-- the answer of `check` to an input that is not too long: the line on the valid module that it spells; else its first
-- fault, as a module's bytes or as a module
abbrev pub IsCheckAnswer : List ℕ → Result (List ℕ) Refusal → Type 0
IsCheckAnswer input (Ok text) = IsModuleText input text
IsCheckAnswer input (Err (Wasm fault)) = decoded input ≡ Err fault
IsCheckAnswer input (Err (Check fault)) = HasCheckFault input fault
IsCheckAnswer input (Err refusal) = ⊥

-- the answer of a command to an input that is not too long
abbrev pub IsAnswerWithin : Command → List ℕ → Result (List ℕ) Refusal → Type 0
IsAnswerWithin command.Run = IsRunAnswer
IsAnswerWithin command.Check = IsCheckAnswer

-- the answer of a command to an input
abbrev pub IsAnswer : Command → List ℕ → Result (List ℕ) Refusal → Type 0
IsAnswer asked input (Err TooLong) = INPUT_LIMIT < length input
IsAnswer asked input found = (length input ≤ INPUT_LIMIT) × IsAnswerWithin asked input found

-- the bytes that a source had left, as far as it tells
abbrev pub Had : Option (List ℕ) → List ℕ → Type 0
Had left bytes = IfSome left (λ known. known ≡ bytes)

-- the answer of a command to the bytes that the source had left
abbrev pub Answers : Command → Option (List ℕ) → Result (List ℕ) Refusal → Type 0
Answers asked left found = (bytes : List ℕ) × Had left bytes × IsAnswer asked bytes found
