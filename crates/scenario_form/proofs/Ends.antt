-- What is answered in the end.
use Rattle.std.proofs.Common.{◌≡◌, List, Some, None, refl, subst, sym, ap, ◌∙◌}
use Rattle.std.specs.Prelude.{All}
use Rattle.fil_base.specs.CidParts.{CidParts}
use Rattle.cid_core.specs.BlockParts.{BlockParts}
use Rattle.fil_message.specs.Tipsets.{IsRules, IsTipset}
use Rattle.fil_message.specs.declared.tipset.Tipset.{Tipset}
use Rattle.scenario_form.specs.Answer.{HasCodes, IsScenario, IsScenarioFault, scenario_of}
use Rattle.scenario_form.specs.Judged.{IsJudged, Spells, scenario_with, spelled_of}
use Rattle.scenario_form.specs.Judging.{tipsets_judged}
use Rattle.scenario_form.specs.Outlines.{IsOutline, raw_scenario}
use Rattle.scenario_form.specs.Parts.{IsRaw}
use Rattle.scenario_form.specs.declared.fault.ScenarioFault.{ScenarioFault}
use Rattle.scenario_form.specs.declared.fault.ScenarioFault.TheVariants.{Root, Cbor, Form, Price, Limit, Codes, State, Next, Total}
use Rattle.scenario_form.specs.declared.outline.Outline.{Outline}
use Rattle.scenario_form.specs.declared.raw.RawScenario.{RawScenario}
use Rattle.scenario_form.specs.declared.scenario.Scenario.{Scenario}
use Rattle.scenario_form.specs.declared.spelled_scenario.SpelledScenario.{SpelledScenario}
use Rattle.scenario_form.proofs.Runs.{IsOfTipset, kind_of}
use Rattle.scenario_form.proofs.WithinLimits.{IsWithin, limits_hold}

-- a judged scenario is within its limits
pub codes_within : (blocks : List BlockParts) (root : CidParts) (s : RawScenario) → IsRaw s → HasCodes blocks root s → IsWithin s
codes_within blocks root s raw (((parts, prices), none), differ) = limits_hold s raw none

rules_hold : (blocks : List BlockParts) (root : CidParts) (s : RawScenario) → IsRaw s → HasCodes blocks root s → IsRules (scenario_of s).rules × All IsTipset (scenario_of s).tipsets
rules_hold blocks root s raw (((parts, prices), none), differ) =
    let within = limits_hold s raw none in
    (record { prices = prices; least_depth = within.least_depth; depth = within.depth; least_pages = within.least_pages; pages = within.pages; codes = differ }, within.tipsets)

pub ranges_hold : (blocks : List BlockParts) (root : CidParts) (s : RawScenario) (found : Scenario) → IsRaw s → HasCodes blocks root s → found ≡ scenario_of s → IsRules found.rules × All IsTipset found.tipsets
ranges_hold blocks root s found raw codes is = subst (λ (x : Scenario). IsRules x.rules × All IsTipset x.tipsets) (sym is) (rules_hold blocks root s raw codes)

pub scenario_is : (blocks : List BlockParts) (root : CidParts) (s : RawScenario) (tipsets : List Tipset) (found : Scenario) → HasCodes blocks root s → tipsets ≡ s.tipsets → tipsets_judged blocks s.rules.codes 0 tipsets ≡ None → found ≡ scenario_of s
    → IsScenario blocks root found
scenario_is blocks root s tipsets found codes same judged is = (s, codes, ap (tipsets_judged blocks s.rules.codes 0) (sym same) ∙ judged, is)

-- a fault of a tipset is one of the scenario
of_kind : (blocks : List BlockParts) (root : CidParts) (s : RawScenario) (fault : ScenarioFault) → IsOfTipset fault → HasCodes blocks root s → tipsets_judged blocks s.rules.codes 0 s.tipsets ≡ Some fault → IsScenarioFault blocks root fault
of_kind blocks root s (State n fault) kind codes judged = (s, codes, judged)
of_kind blocks root s (Next n) kind codes judged = (s, codes, judged)
of_kind blocks root s (Total n) kind codes judged = (s, codes, judged)
of_kind blocks root s (Root cid) kind codes judged = absurd kind
of_kind blocks root s (Cbor fault) kind codes judged = absurd kind
of_kind blocks root s (Form place fault) kind codes judged = absurd kind
of_kind blocks root s (Price fault) kind codes judged = absurd kind
of_kind blocks root s (Limit n) kind codes judged = absurd kind
of_kind blocks root s Codes kind codes judged = absurd kind

pub tipset_refused : (blocks : List BlockParts) (root : CidParts) (s : RawScenario) (tipsets : List Tipset) (fault : ScenarioFault) → HasCodes blocks root s → tipsets ≡ s.tipsets → tipsets_judged blocks s.rules.codes 0 tipsets ≡ Some fault
    → IsScenarioFault blocks root fault
tipset_refused blocks root s tipsets fault codes same judged =
    let own : tipsets_judged blocks s.rules.codes 0 s.tipsets ≡ Some fault = ap (tipsets_judged blocks s.rules.codes 0) (sym same) ∙ judged in
    of_kind blocks root s fault (kind_of blocks s.rules.codes 0 s.tipsets fault own) codes own

-- what stays of an outline that was judged
pub stays : (blocks : List BlockParts) (root : CidParts) (o : Outline) (ts : List Tipset) (text : SpelledScenario) → IsOutline o ts → IsRaw (raw_scenario o ts) → HasCodes blocks root (raw_scenario o ts)
    → tipsets_judged blocks o.rules.codes 0 ts ≡ None → text ≡ spelled_of o → IsJudged blocks root text ts
stays blocks root o ts text is raw codes judged same =
    let whole : scenario_with text ts ≡ scenario_of (raw_scenario o ts) = ap (λ (t : SpelledScenario). scenario_with t ts) same in
    let ranges = ranges_hold blocks root (raw_scenario o ts) (scenario_with text ts) raw codes whole in
    record {
      scenario = scenario_is blocks root (raw_scenario o ts) ts (scenario_with text ts) codes refl judged whole;
      spelled = subst (λ (t : SpelledScenario). Spells t ts) (sym same) (record { parts = is.parts; read = is.read });
      rules = ranges.0;
      tipsets = ranges.1;
    }
