-- A tipset that is read again from its bytes.
use Rattle.std.proofs.Common.{◌≡◌, ℕ, ◌<◌, List, [], ◌∷◌, length, get_or, Bor, Ok, Err, sym, ap, subst, ◌∙◌, arith}
use Rattle.dag_cbor.specs.declared.value.Value.TheVariants as v
use Rattle.std.specs.Prelude.{All}
use Rattle.std.proofs.lemmas.List.Elements.{All-same}
use Rattle.fil_message.specs.Tipsets.{IsRules, IsTipset}
use Rattle.fil_message.specs.declared.tipset.Tipset.{Tipset}
use Rattle.fil_message.proofs.ReadSteps.{ok_same}
use Rattle.cid_core.specs.BlockParts.{BlockParts}
use Rattle.fil_base.specs.CidParts.{CidParts}
use Rattle.scenario_form.specs.Answer.{IsScenario}
use Rattle.scenario_form.specs.Judged.{IsJudged, Spells, scenario_with}
use Rattle.scenario_form.specs.Reading.{FormFault, tipset_read}
use Rattle.scenario_form.specs.Spelled.{IsPartText, the_value, the_values}
use Rattle.scenario_form.specs.declared.spelled_scenario.SpelledScenario.{SpelledScenario}
use Rattle.scenario_form.proofs.PartTexts.{part_text_at, texts_of, value_at, values_count}
use Rattle.scenario_form.proofs.Steps.{each_at, each_length}

-- there are as many texts as tipsets
pub spelled_count : (text : SpelledScenario) (ts : List Tipset) → Spells text ts → length text.tipsets.items ≡ length ts
spelled_count text ts is = sym (values_count text.tipsets.items) ∙ sym (each_length tipset_read 0 (the_values (texts_of text.tipsets.items)) ts is.read)

-- the text at a place spells a tipset
pub text_part : (text : SpelledScenario) (ts : List Tipset) (list : List (Bor (List ℕ))) (at : ℕ) (s : Bor (List ℕ)) → Spells text ts → list ≡ text.tipsets.items → at < length ts → IsPartText (get_or list at s).now
text_part text ts list at s is same within =
    subst (λ (l : List (Bor (List ℕ))). IsPartText (get_or l at s).now) (sym same) (part_text_at text.tipsets.items at s is.parts.each (omega (arith, within, spelled_count text ts is)))

-- and is read as the one there
pub text_read : (text : SpelledScenario) (ts : List Tipset) (list : List (Bor (List ℕ))) (at : ℕ) (s : Bor (List ℕ)) (d : Tipset) → Spells text ts → list ≡ text.tipsets.items → at < length ts
    → tipset_read at (the_value (get_or list at s).now) ≡ Ok (get_or ts at d)
text_read text ts list at s d is same within =
    let inside : at < length text.tipsets.items = omega (arith, within, spelled_count text ts is) in
    ap (λ (l : List (Bor (List ℕ))). tipset_read at (the_value (get_or l at s).now)) same
    ∙ ap (tipset_read at) (sym (value_at text.tipsets.items at s v.Null inside))
    ∙ each_at tipset_read 0 at (the_values (texts_of text.tipsets.items)) ts at v.Null d (omega arith) (omega (arith, inside, values_count text.tipsets.items)) is.read

pub tipset_is : (text : SpelledScenario) (ts : List Tipset) (list : List (Bor (List ℕ))) (at : ℕ) (s : Bor (List ℕ)) (d found : Tipset) → Spells text ts → list ≡ text.tipsets.items → at < length ts
    → tipset_read at (the_value (get_or list at s).now) ≡ Ok found → found ≡ get_or ts at d
tipset_is text ts list at s d found is same within read = ok_same _ found (get_or ts at d) read (text_read text ts list at s d is same within)

-- and is not refused
pub never_refused : (text : SpelledScenario) (ts : List Tipset) (list : List (Bor (List ℕ))) (at : ℕ) (s : Bor (List ℕ)) (fault : FormFault) → Spells text ts → list ≡ text.tipsets.items → at < length ts
    → tipset_read at (the_value (get_or list at s).now) ≡ Err fault → ⊥
never_refused text [] list at s fault is same within refused = absurd (omega arith)
never_refused text (t ∷ ts) list at s fault is same within refused =
    let wrong : Ok (get_or (t ∷ ts) at t) ≡ Err fault = sym (text_read text (t ∷ ts) list at s t is same within) ∙ refused in
    absurd (cc)

-- the scenario with the tipsets that were read again
pub read_again : (blocks : List BlockParts) (root : CidParts) (text : SpelledScenario) (ts found : List Tipset) → IsJudged blocks root text ts → found ≡ ts → IsScenario blocks root (scenario_with text found)
read_again blocks root text ts found is same = subst (λ (xs : List Tipset). IsScenario blocks root (scenario_with text xs)) (sym same) is.scenario

-- and its ranges
pub ranges_again : (blocks : List BlockParts) (root : CidParts) (text : SpelledScenario) (ts found : List Tipset) → IsJudged blocks root text ts → found ≡ ts → IsRules text.rules × All IsTipset found
ranges_again blocks root text ts found is same = (is.rules, All-same IsTipset found ts same is.tipsets)
