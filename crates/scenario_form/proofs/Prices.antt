-- The prices of the scenario under a root.
use Rattle.std.proofs.Common.{◌≡◌, ℕ, List, Result, Ok, Err, IfErr, IsErrAnd, sym, subst}
use Rattle.fil_base.specs.CidParts.{CidParts}
use Rattle.cid_core.specs.BlockParts.{BlockParts}
use Rattle.gas_prices.specs.Prices.{IsPriceFault}
use Rattle.gas_prices.specs.declared.price_fault.PriceFault.{PriceFault}
use Rattle.scenario_form.specs.Answer.{HasParts, IsScenarioFault}
use Rattle.scenario_form.specs.declared.fault.ScenarioFault.{ScenarioFault}
use Rattle.scenario_form.specs.declared.fault.ScenarioFault.TheVariants.{Price}
use Rattle.scenario_form.specs.declared.raw.RawScenario.{RawScenario}

-- a fault of the prices
pub price_refused : {T : Type 0} (r : Result T ScenarioFault) (s : RawScenario) (prices : List ℕ) (price : PriceFault) → IsErrAnd r (λ fault. fault ≡ Price price) → prices ≡ s.rules.prices → IsPriceFault prices price
    → (blocks : List BlockParts) (root : CidParts) → HasParts blocks root s → IfErr r (IsScenarioFault blocks root)
price_refused (Ok x) s prices price same is refused blocks root parts = tt
price_refused (Err fault) s prices price same is refused blocks root parts = subst (IsScenarioFault blocks root) (sym same) (s, parts, subst (λ (ps : List ℕ). IsPriceFault ps price) is refused)
