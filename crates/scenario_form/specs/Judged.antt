-- A scenario that was judged, whose tipsets stay in the bytes that spell them.
use Rattle.std.specs.Prelude.{◌≡◌, All, List, map}
use Rattle.std.specs.declared.result.Result.TheVariants.{Ok}
use Rattle.cid_core.specs.BlockParts.{BlockParts}
use Rattle.fil_base.specs.CidParts.{CidParts}
use Rattle.fil_message.specs.Tipsets.{IsRules, IsTipset}
use Rattle.fil_message.specs.declared.tipset.Tipset.{Tipset}
use Rattle.scenario_form.specs.Answer.{IsScenario}
use Rattle.scenario_form.specs.Reading.{each_read, tipset_read}
use Rattle.scenario_form.specs.Spelled.{ArePartTexts, the_values}
use Rattle.scenario_form.specs.declared.outline.Outline.{Outline}
use Rattle.scenario_form.specs.declared.scenario.Scenario.{Scenario}
use Rattle.scenario_form.specs.declared.spelled_scenario.SpelledScenario.{SpelledScenario}

-- its bytes spell these tipsets
pub record Spells (text : SpelledScenario) (whole : List Tipset) : Type 0 where
  pub parts : ArePartTexts (map (λ s. s.now) text.tipsets.items)
  pub read : each_read tipset_read 0 (the_values (map (λ s. s.now) text.tipsets.items)) ≡ Ok whole

-- the scenario of its rules and these tipsets
abbrev pub scenario_with : SpelledScenario → List Tipset → Scenario
scenario_with text whole = record { rules = text.rules; tipsets = whole }

-- with the tipsets that it spells it is the scenario under a root
pub record IsJudged (blocks : List BlockParts) (root : CidParts) (text : SpelledScenario) (whole : List Tipset) : Type 0 where
  pub scenario : IsScenario blocks root (scenario_with text whole)
  pub spelled : Spells text whole
  pub rules : IsRules text.rules
  pub tipsets : All IsTipset whole

-- what is left of an outline that was judged
abbrev pub spelled_of : Outline → SpelledScenario
spelled_of o = record {
  rules = record { prices = o.rules.prices; depth = o.rules.depth; pages = o.rules.pages; codes = o.rules.codes };
  tipsets = o.texts;
}
