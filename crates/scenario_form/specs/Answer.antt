-- The scenario under a root, or why there is none: the first cause in the order of these definitions.
use Rattle.std.specs.Prelude.{◌≡◌, List, true, false}
use Rattle.std.specs.declared.option.Option.TheVariants.{None, Some}
use Rattle.std.specs.declared.result.Result.TheVariants.{Ok, Err}
use Rattle.fil_base.specs.CidParts.{CidParts}
use Rattle.cid_core.specs.BlockParts.{BlockParts, found}
use Rattle.dag_cbor.specs.Faults.{IsFault}
use Rattle.dag_cbor.specs.Plain.{IsPlain}
use Rattle.dag_cbor.specs.Spelling.{spelled}
use Rattle.dag_cbor.specs.declared.value.Value.{Value}
use Rattle.gas_prices.specs.Prices.{IsPriceFault, IsPriceList}
use Rattle.fil_message.specs.Tipsets.{has_equal_codes}
use Rattle.scenario_form.specs.Judging.{exceeded_limit, tipsets_judged}
use Rattle.scenario_form.specs.Reading.{scenario_read}
use Rattle.scenario_form.specs.declared.fault.ScenarioFault.{ScenarioFault}
use Rattle.scenario_form.specs.declared.fault.ScenarioFault.TheVariants.{Root, Cbor, Form, Price, Limit, Codes, State, Next, Total}
use Rattle.scenario_form.specs.declared.raw.RawScenario.{RawScenario}
use Rattle.scenario_form.specs.declared.scenario.Scenario.{Scenario}

-- the block under the root spells a value
pub record HasValue (blocks : List BlockParts) (root : CidParts) (value : Value) : Type 0 where
  pub block : BlockParts
  pub found : found blocks root ≡ Some block
  pub plain : IsPlain 128 value
  pub spelled : block.bytes ≡ spelled value

-- the value has the parts of a scenario
abbrev pub HasParts : List BlockParts → CidParts → RawScenario → Type 0
HasParts blocks root s = (value : Value) × HasValue blocks root value × (scenario_read value ≡ Ok s)

-- their prices are in range
abbrev pub HasPrices : List BlockParts → CidParts → RawScenario → Type 0
HasPrices blocks root s = HasParts blocks root s × IsPriceList s.rules.prices

-- and no limit is exceeded
abbrev pub HasLimits : List BlockParts → CidParts → RawScenario → Type 0
HasLimits blocks root s = HasPrices blocks root s × (exceeded_limit s ≡ None)

-- and the codes differ
abbrev pub HasCodes : List BlockParts → CidParts → RawScenario → Type 0
HasCodes blocks root s = HasLimits blocks root s × (has_equal_codes s.rules.codes ≡ false)

-- a fault of a tipset
abbrev pub IsTipsetFault : List BlockParts → CidParts → ScenarioFault → Type 0
IsTipsetFault blocks root fault =
    (s : RawScenario) × HasCodes blocks root s × (tipsets_judged blocks s.rules.codes 0 s.tipsets ≡ Some fault)

-- why there is no scenario under a root
abbrev pub IsScenarioFault : List BlockParts → CidParts → ScenarioFault → Type 0
IsScenarioFault blocks root (Root cid) = (cid ≡ root) × (found blocks root ≡ None)
IsScenarioFault blocks root (Cbor fault) = (b : BlockParts) × (found blocks root ≡ Some b) × IsFault b.bytes fault
IsScenarioFault blocks root (Form place fault) =
    (value : Value) × HasValue blocks root value × (scenario_read value ≡ Err (place, fault))
IsScenarioFault blocks root (Price fault) =
    (s : RawScenario) × HasParts blocks root s × IsPriceFault s.rules.prices fault
IsScenarioFault blocks root (Limit n) = (s : RawScenario) × HasPrices blocks root s × (exceeded_limit s ≡ Some n)
IsScenarioFault blocks root Codes = (s : RawScenario) × HasLimits blocks root s × (has_equal_codes s.rules.codes ≡ true)
IsScenarioFault blocks root (State n fault) = IsTipsetFault blocks root (State n fault)
IsScenarioFault blocks root (Next n) = IsTipsetFault blocks root (Next n)
IsScenarioFault blocks root (Total n) = IsTipsetFault blocks root (Total n)

-- the scenario of parts that were judged
abbrev pub scenario_of : RawScenario → Scenario
scenario_of s = record {
  rules = record { prices = s.rules.prices; depth = s.rules.depth; pages = s.rules.pages; codes = s.rules.codes };
  tipsets = s.tipsets;
}

-- the scenario under a root
abbrev pub IsScenario : List BlockParts → CidParts → Scenario → Type 0
IsScenario blocks root scenario =
    (s : RawScenario) × HasCodes blocks root s × (tipsets_judged blocks s.rules.codes 0 s.tipsets ≡ None)
    × (scenario ≡ scenario_of s)
