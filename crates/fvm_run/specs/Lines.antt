-- The line that a status other than `Done` puts on standard error. Numbers are decimal.
use Rattle.std.specs.Prelude.{ℕ, ◌==◌, List, [], ◌++◌, codes, if◌then◌else◌}
use Rattle.std.specs.declared.option.Option.{Option}
use Rattle.std.specs.declared.option.Option.TheVariants.{None, Some}
use Rattle.std.specs.Fmt.{decimal}
use Rattle.car_file.specs.declared.fault.CarKind.{CarKind}
use Rattle.car_file.specs.declared.fault.CarKind.TheVariants as car
use Rattle.cid_core.specs.CidText.{cid_text}
use Rattle.dag_cbor.specs.declared.fault.CborKind.{CborKind}
use Rattle.dag_cbor.specs.declared.fault.CborKind.TheVariants.{Cut, LongHead, Reserved, Indefinite, Float, Simple, Tag, LinkForm, Utf8, KeyKind, KeyOrder, KeyRepeat, Depth, Trailing}
use Rattle.cbor_fields.specs.declared.field_fault.FieldFault.{FieldFault}
use Rattle.cbor_fields.specs.declared.field_fault.FieldKind.{FieldKind}
use Rattle.cbor_fields.specs.declared.field_fault.FieldKind.TheVariants.{WrongKind, WrongLength, OutOfRange}
use Rattle.fil_base.specs.CidParts.{CidParts}
use Rattle.fil_message.specs.declared.form_fault.FormFault.{FormFault}
use Rattle.fil_message.specs.declared.form_fault.FormFault.TheVariants as form
use Rattle.gas_prices.specs.declared.price_fault.PriceFault.{PriceFault}
use Rattle.gas_prices.specs.declared.price_fault.PriceFault.TheVariants as price
use Rattle.hamt_map.specs.declared.state_fault.StateFault.{StateFault}
use Rattle.hamt_map.specs.declared.state_fault.StateFault.TheVariants as state
use Rattle.scenario_form.specs.declared.fault.ScenarioFault.{ScenarioFault}
use Rattle.scenario_form.specs.declared.fault.ScenarioFault.TheVariants as scenario
use Rattle.scenario_form.specs.declared.place.Place.{Place}
use Rattle.wasm_check.specs.declared.fault.CheckFault.{CheckFault}
use Rattle.wasm_check.specs.declared.fault.CheckKind.{CheckKind}
use Rattle.wasm_check.specs.declared.fault.CheckKind.TheVariants as check
use Rattle.wasm_decode.specs.declared.fault.WasmKind.{WasmKind}
use Rattle.wasm_decode.specs.declared.fault.WasmKind.TheVariants as wasm
use Rattle.fvm_run.specs.declared.refusal.Refusal.{Refusal}
use Rattle.fvm_run.specs.declared.refusal.Refusal.TheVariants.{TooLong, Car, Cbor, Form, Scenario, NotBuilt, Wasm, Check}
use Rattle.fvm_run.specs.declared.status.Status.{Status}
use Rattle.fvm_run.specs.declared.status.Status.TheVariants.{Done, Usage, Refused, ReadFault, WriteFault, NoMemory}

-- ---- the names of what is wrong

abbrev pub cbor_kind : CborKind → List ℕ
cbor_kind Cut = codes "Cut"
cbor_kind LongHead = codes "LongHead"
cbor_kind Reserved = codes "Reserved"
cbor_kind Indefinite = codes "Indefinite"
cbor_kind Float = codes "Float"
cbor_kind Simple = codes "Simple"
cbor_kind Tag = codes "Tag"
cbor_kind LinkForm = codes "LinkForm"
cbor_kind Utf8 = codes "Utf8"
cbor_kind KeyKind = codes "KeyKind"
cbor_kind KeyOrder = codes "KeyOrder"
cbor_kind KeyRepeat = codes "KeyRepeat"
cbor_kind Depth = codes "Depth"
cbor_kind Trailing = codes "Trailing"

abbrev pub car_kind : CarKind → List ℕ
car_kind car.Header = codes "Header"
car_kind car.Version = codes "Version"
car_kind car.Roots = codes "Roots"
car_kind car.Section = codes "Section"
car_kind car.Cid = codes "Cid"
car_kind car.HashNotSupported = codes "HashNotSupported"
car_kind car.Digest = codes "Digest"
car_kind car.Cut = codes "Cut"

abbrev pub field_kind : FieldKind → List ℕ
field_kind WrongKind = codes "WrongKind"
field_kind WrongLength = codes "WrongLength"
field_kind OutOfRange = codes "OutOfRange"

abbrev pub state_kind : StateFault → List ℕ
state_kind (state.Missing cid) = codes "Missing"
state_kind (state.Form cid) = codes "Form"
state_kind (state.NotCanonical cid canonical) = codes "NotCanonical"
state_kind (state.Version version) = codes "Version"
state_kind (state.Actor id) = codes "Actor"

abbrev pub wasm_kind : WasmKind → List ℕ
wasm_kind wasm.Limit = codes "Limit"
wasm_kind wasm.Float = codes "Float"
wasm_kind wasm.Start = codes "Start"
wasm_kind wasm.Unsupported = codes "Unsupported"
wasm_kind wasm.UnknownImport = codes "UnknownImport"
wasm_kind wasm.Form = codes "Form"

abbrev pub check_kind : CheckKind → List ℕ
check_kind check.TypeMismatch = codes "TypeMismatch"
check_kind check.Underflow = codes "Underflow"
check_kind check.Height = codes "Height"
check_kind check.Label = codes "Label"
check_kind check.Local = codes "Local"
check_kind check.Global = codes "Global"
check_kind check.Function = codes "Function"
check_kind check.TypeIndex = codes "TypeIndex"
check_kind check.NoMemory0 = codes "NoMemory0"
check_kind check.NoTable = codes "NoTable"
check_kind check.Align = codes "Align"
check_kind check.Immutable = codes "Immutable"
check_kind check.Nesting = codes "Nesting"
check_kind check.Init = codes "Init"
check_kind check.Export = codes "Export"
check_kind check.Entry = codes "Entry"

-- ---- lines

-- a number behind a text
abbrev pub number_line : List ℕ → ℕ → List ℕ
number_line front number = front ++ (decimal number ++ codes "\n")

-- a name and a number behind a text
abbrev pub name_line : List ℕ → List ℕ → ℕ → List ℕ
name_line front name number = front ++ (name ++ (codes " " ++ (decimal number ++ codes "\n")))

abbrev pub form_line : FormFault → List ℕ
form_line (form.Field fault) = name_line (codes "refused form ") (field_kind fault.kind) fault.index
form_line (form.Order at) = number_line (codes "refused form Order ") at
form_line form.Total = codes "refused form Total\n"

-- a CID, and `-` for one that has no text
abbrev pub cid_letters : CidParts → List ℕ
cid_letters cid = if cid.version == 1 then cid_text cid else codes "-"

-- a number, and `-` for none
abbrev pub number_letters : Option ℕ → List ℕ
number_letters None = codes "-"
number_letters (Some n) = decimal n

abbrev pub price_line : PriceFault → List ℕ
price_line (price.Count n) = number_line (codes "refused scenario Price Count ") n
price_line (price.Zero n) = number_line (codes "refused scenario Price Zero ") n
price_line (price.TooHigh n) = number_line (codes "refused scenario Price TooHigh ") n

-- a field of a scenario: the tipset, the block, the message; what is wrong, and the field's index
abbrev pub place_line : Place → FieldFault → List ℕ
place_line place fault =
    codes "refused scenario Form "
    ++ (number_letters place.tipset ++ (codes " " ++ (number_letters place.block ++ (codes " "
    ++ (number_letters place.message ++ name_line (codes " ") (field_kind fault.kind) fault.index)))))

abbrev pub scenario_line : ScenarioFault → List ℕ
scenario_line (scenario.Root cid) = codes "refused scenario Root " ++ (cid_letters cid ++ codes "\n")
scenario_line (scenario.Cbor fault) = name_line (codes "refused scenario Cbor ") (cbor_kind fault.kind) fault.at
scenario_line (scenario.Form place fault) = place_line place fault
scenario_line (scenario.Price fault) = price_line fault
scenario_line (scenario.Limit n) = number_line (codes "refused scenario Limit ") n
scenario_line scenario.Codes = codes "refused scenario Codes\n"
scenario_line (scenario.State n fault) =
    codes "refused scenario State " ++ (decimal n ++ (codes " " ++ (state_kind fault ++ codes "\n")))
scenario_line (scenario.Next n) = number_line (codes "refused scenario Next ") n
scenario_line (scenario.Total n) = number_line (codes "refused scenario Total ") n

-- a fault of a module: what is wrong, the function, and the instruction in it
abbrev pub check_line : CheckFault → List ℕ
check_line fault =
    codes "refused check " ++ (check_kind fault.kind ++ (codes " " ++ (decimal fault.function
    ++ (codes " " ++ (decimal fault.position ++ codes "\n")))))

abbrev pub refusal_line : Refusal → List ℕ
refusal_line TooLong = codes "refused input TooLong\n"
refusal_line (Car fault) = name_line (codes "refused car ") (car_kind fault.kind) fault.at
refusal_line (Cbor fault) = name_line (codes "refused cbor ") (cbor_kind fault.kind) fault.at
refusal_line (Form fault) = form_line fault
refusal_line (Scenario fault) = scenario_line fault
refusal_line (NotBuilt n) = number_line (codes "refused NotBuilt ") n
refusal_line (Wasm fault) = name_line (codes "refused wasm ") (wasm_kind fault.kind) fault.at
refusal_line (Check fault) = check_line fault

abbrev pub line : Status → List ℕ
line Done = []
line (Usage fault) = codes "usage: run [--workers W] [--engines E] | schedule [--engines E] [--seed S] | check | pack | generate S N | load S N\n"
line (Refused refusal) = refusal_line refusal
line ReadFault = codes "read fault\n"
line WriteFault = codes "write fault\n"
line NoMemory = codes "no memory\n"

-- ---- the CID in a line

-- the CID in the line of a fault; nothing where it names none
abbrev pub cid_in_fault : ScenarioFault → List ℕ
cid_in_fault (scenario.Root cid) = cid_letters cid
cid_in_fault fault = []

-- that in the line of a refusal
abbrev pub cid_in_refusal : Refusal → List ℕ
cid_in_refusal (Scenario fault) = cid_in_fault fault
cid_in_refusal refusal = []

-- that in the line of a status
abbrev pub cid_in_line : Status → List ℕ
cid_in_line (Refused refusal) = cid_in_refusal refusal
cid_in_line status = []
