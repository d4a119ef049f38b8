-- Why a command has no text.
use Rattle.std.specs.Prelude.{ℕ, List, Option, Err}
use Rattle.fil_base.specs.declared.failure.Failure.{Failure}
use Rattle.fil_base.specs.declared.failure.Failure.TheVariants as failure
use Rattle.car_file.specs.declared.fault.CarFault.{CarFault}
use Rattle.dag_cbor.specs.declared.fault.CborFault.{CborFault}
use Rattle.fil_message.specs.declared.form_fault.FormFault.{FormFault}
use Rattle.scenario_form.specs.declared.fault.ScenarioFault.{ScenarioFault}
use Rattle.wasm_check.specs.declared.fault.CheckFault.{CheckFault}
use Rattle.wasm_decode.specs.declared.fault.WasmFault.{WasmFault}
use Rattle.std.specs.Io.KnownBytes.{IsAtEnd}
use Rattle.outside_io.specs.Causes.{Rose}
use Rattle.fvm_run.specs.declared.command.Command.{Command}
use Rattle.fvm_run.specs.declared.refusal.Refusal.{Refusal}
use Rattle.fvm_run.specs.declared.refusal.Refusal.TheVariants.{TooLong, Car, Cbor, Form, Scenario, Wasm, Check}
use Rattle.fvm_run.specs.declared.status.Status.{Status}
use Rattle.fvm_run.specs.declared.status.Status.TheVariants as status
use Rattle.fvm_run.specs.declared.stop.Stop.{Stop}
use Rattle.fvm_run.specs.declared.stop.Stop.TheVariants.{ReadFailed, NoMemory, Refused}
use Rattle.fvm_run.specs.Answers.{Answers}

-- no memory stays so, and a fault is a refusal
abbrev pub car_stop : Failure CarFault → Stop
car_stop failure.NoMemory = NoMemory
car_stop (failure.Fault fault) = Refused (Car fault)

abbrev pub cbor_stop : Failure CborFault → Stop
cbor_stop failure.NoMemory = NoMemory
cbor_stop (failure.Fault fault) = Refused (Cbor fault)

abbrev pub form_stop : Failure FormFault → Stop
form_stop failure.NoMemory = NoMemory
form_stop (failure.Fault fault) = Refused (Form fault)

abbrev pub scenario_stop : Failure ScenarioFault → Stop
scenario_stop failure.NoMemory = NoMemory
scenario_stop (failure.Fault fault) = Refused (Scenario fault)

abbrev pub wasm_stop : Failure WasmFault → Stop
wasm_stop failure.NoMemory = NoMemory
wasm_stop (failure.Fault fault) = Refused (Wasm fault)

abbrev pub check_stop : Failure CheckFault → Stop
check_stop failure.NoMemory = NoMemory
check_stop (failure.Fault fault) = Refused (Check fault)

-- the source was read to its end before a refusal, but for that of an input that is too long
abbrev pub IsReadBefore : Refusal → Option (List ℕ) → Type 0
IsReadBefore TooLong left = Unit {0}
IsReadBefore refusal left = IsAtEnd left

-- a refusal is the command's answer to what the source had left
abbrev pub IsRefusalOf : Command → Option (List ℕ) → Option (List ℕ) → Refusal → Type 0
IsRefusalOf command old new refusal = Answers command old (Err refusal) × IsReadBefore refusal new

-- a read fault comes only where the source's count of faults rose, and a refusal is the answer
abbrev pub HasCauseOfStop : Command → Option (List ℕ) → Option (List ℕ) → ℕ → ℕ → Stop → Type 0
HasCauseOfStop command old new before now ReadFailed = Rose before now
HasCauseOfStop command old new before now NoMemory = Unit {0}
HasCauseOfStop command old new before now (Refused refusal) = IsRefusalOf command old new refusal

-- where the command was refused, P holds of the refusal; and its source did not fail
abbrev pub IfRefused : (Refusal → Type 0) → Stop → Type 0
IfRefused P ReadFailed = ⊥
IfRefused P NoMemory = Unit {0}
IfRefused P (Refused refusal) = P refusal

-- the status with which a command ends that has no text
abbrev pub status_of_stop : Stop → Status
status_of_stop ReadFailed = status.ReadFault
status_of_stop NoMemory = status.NoMemory
status_of_stop (Refused refusal) = status.Refused refusal
