-- What `run` answers to a CAR file: the reports on its tipsets, each evaluated alone over the loaded blocks.
use Rattle.std.specs.Prelude.{◌≡◌, ◌+◌, ℕ, true, List, [], ◌∷◌, All, map, if◌then◌else◌}
use Rattle.std.specs.declared.option.Option.{Option}
use Rattle.std.specs.declared.option.Option.TheVariants.{None, Some}
use Rattle.std.specs.declared.result.Result.TheVariants.{Ok}
use Rattle.block_base.specs.Base.{base_of}
use Rattle.car_file.specs.Car.{IsCar, car}
use Rattle.cid_core.specs.BlockParts.{BlockParts}
use Rattle.fil_base.specs.CidParts.{CidParts}
use Rattle.fil_message.specs.declared.tipset.Report.{Report}
use Rattle.fil_message.specs.declared.tipset.Tipset.{Tipset}
use Rattle.gas_prices.specs.declared.rules.Rules.{Rules}
use Rattle.report_text.specs.Text.{reports_text}
use Rattle.scenario_form.specs.Answer.{IsScenario, IsScenarioFault}
use Rattle.scenario_form.specs.declared.fault.ScenarioFault.{ScenarioFault}
use Rattle.scenario_form.specs.declared.scenario.Scenario.{Scenario}
use Rattle.state_model.specs.State.{State}
use Rattle.state_model.specs.StateAt.{state_at}
use Rattle.tipset_exec.specs.Alone.{IsEvaluable, alone, is_built}
use Rattle.fvm_run.specs.declared.refusal.Refusal.{Refusal}
use Rattle.fvm_run.specs.declared.refusal.Refusal.TheVariants.{NotBuilt}

-- the input is the CAR file of a root and blocks; the loaded blocks are these, with that of the empty list behind them
-- where none has its CID
pub record IsLoaded (input : List ℕ) (root : CidParts) (loaded : List BlockParts) : Type 0 where
  pub blocks : List BlockParts
  pub archive : IsCar root blocks
  pub bytes : input ≡ car root blocks
  pub base : loaded ≡ base_of blocks

-- tipsets with the states under their roots
pub record HaveStates (blocks : List BlockParts) (rules : Rules) (tipsets : List Tipset) (pairs : List (Tipset × State)) : Type 0 where
  pub listed : map (λ p. p.0) pairs ≡ tipsets
  pub states : All (λ p. state_at blocks p.0.root rules.codes ≡ Ok p.1) pairs

-- the number of the first tipset that this version does not evaluate, counted from a number on
abbrev pub first_not_built : ℕ → List (Tipset × State) → Option ℕ
first_not_built n [] = None
first_not_built n (p ∷ pairs) = if is_built p.1 p.0 then first_not_built (n + 1) pairs else Some n

-- the reports on tipsets, each alone over the blocks and its state
abbrev pub reports_on : List BlockParts → Rules → List (Tipset × State) → List Report
reports_on blocks rules pairs = map (λ p. alone blocks rules p.1 p.0) pairs

-- the text of all reports on a scenario, of which each tipset is evaluated
abbrev pub IsTextOf : List BlockParts → Scenario → List ℕ → Type 0
IsTextOf blocks scenario text =
    (pairs : List (Tipset × State)) × HaveStates blocks scenario.rules scenario.tipsets pairs
    × (first_not_built 0 pairs ≡ None) × (text ≡ reports_text (reports_on blocks scenario.rules pairs))

-- a tipset of the scenario is not evaluated
abbrev pub IsNotBuilt : List BlockParts → Scenario → ℕ → Type 0
IsNotBuilt blocks scenario n =
    (pairs : List (Tipset × State)) × HaveStates blocks scenario.rules scenario.tipsets pairs × (first_not_built 0 pairs ≡ Some n)

-- the input has a scenario, and P holds of it over the loaded blocks
abbrev pub OfScenario : List ℕ → (List BlockParts → Scenario → Type 0) → Type 0
OfScenario input P =
    (root : CidParts) × (loaded : List BlockParts) × IsLoaded input root loaded
    × (scenario : Scenario) × IsScenario loaded root scenario × P loaded scenario

-- the input is a CAR file with no scenario under its root
abbrev pub HasScenarioFault : List ℕ → ScenarioFault → Type 0
HasScenarioFault input fault =
    (root : CidParts) × (loaded : List BlockParts) × IsLoaded input root loaded × IsScenarioFault loaded root fault

-- the input is a CAR file with this scenario over these loaded blocks
abbrev pub HasScenario : List ℕ → List BlockParts → Scenario → Type 0
HasScenario input loaded scenario =
    (root : CidParts) × IsLoaded input root loaded × IsScenario loaded root scenario

-- each tipset can be evaluated over its state
abbrev pub AreEvaluable : List BlockParts → Rules → List Tipset → Type 0
AreEvaluable blocks rules tipsets = All (λ t. (s : State) × IsEvaluable blocks rules t s) tipsets

-- and this version does evaluate it
abbrev pub AreBuilt : List BlockParts → Rules → List Tipset → Type 0
AreBuilt blocks rules tipsets =
    All (λ t. (s : State) × IsEvaluable blocks rules t s × (is_built s t ≡ true)) tipsets

-- the refusal of a scenario, of which a tipset is not evaluated
abbrev pub IsUnbuiltRefusal : List BlockParts → Scenario → Refusal → Type 0
IsUnbuiltRefusal blocks scenario refusal = (n : ℕ) × (refusal ≡ NotBuilt n) × IsNotBuilt blocks scenario n
