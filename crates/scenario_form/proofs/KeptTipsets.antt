-- Tipsets are judged alike with and without their messages.
use Rattle.std.proofs.Common.{◌≡◌, ℕ, ◌+◌, ◌≤◌, Bool, cond, not, ◌||◌, ltb, List, [], ◌∷◌, ◌++◌, length, map, sum, Option, Some, None, Result, Ok, Err, refl, sym, ap, ◌∙◌, arith}
use Rattle.std.specs.Prelude.{All}
use Rattle.std.specs.List.{list_any}
use Rattle.std.proofs.Math.Bool.{or-false}
use Rattle.std.proofs.lemmas.List.{length-map, map-append}
use Rattle.std.proofs.lemmas.List.Elements.{All-map, All-same, All-weaker}
use Rattle.std.proofs.lemmas.List.Folds.{list_any-append}
use Rattle.cid_core.specs.BlockParts.{BlockParts}
use Rattle.gas_prices.specs.declared.rules.Codes.{Codes}
use Rattle.dag_cbor.specs.declared.value.Value.{Value}
use Rattle.fil_message.specs.Tipsets.{IsTipset}
use Rattle.fil_message.specs.declared.tipset.TipBlock.{TipBlock}
use Rattle.fil_message.specs.declared.tipset.Tipset.{Tipset}
use Rattle.hamt_map.specs.declared.state_fault.StateFault.{StateFault}
use Rattle.state_model.specs.State.{State, all_below_next, has_room_for}
use Rattle.state_model.specs.StateAt.{state_at}
use Rattle.scenario_form.specs.Judging.{exceeded_limit, has_long_block, has_long_message, is_outside, or_else, tipset_judged, tipsets_judged}
use Rattle.scenario_form.specs.Outlines.{AreOutlines, emptied, outline_limit, raw_scenario, without_messages}
use Rattle.scenario_form.specs.Reading.{tipset_read}
use Rattle.scenario_form.specs.declared.fault.ScenarioFault.{ScenarioFault}
use Rattle.scenario_form.specs.declared.fault.ScenarioFault.TheVariants.{Next, Total}
use Rattle.scenario_form.specs.declared.outline.Outline.{Outline}
use Rattle.scenario_form.specs.declared.outline.Outlines.{Outlines}
use Rattle.scenario_form.proofs.AnyLoops.{is_wide}
use Rattle.scenario_form.proofs.Runs.{judged_over, no_state}
use Rattle.scenario_form.proofs.Steps.{SoFar, each_none}
use Rattle.scenario_form.proofs.WithinLimits.{first_of_six}

-- ---- without messages

abbrev award : TipBlock → ℕ
award b = b.award

bare_awards : (blocks : List TipBlock) → map award (map emptied blocks) ≡ map award blocks
bare_awards [] = refl
bare_awards (b ∷ blocks) = ap (λ (ns : List ℕ). b.award ∷ ns) (bare_awards blocks)

one_judged : (blocks : List BlockParts) (codes : Codes) (n : ℕ) (t : Tipset) → tipset_judged blocks codes n (without_messages t) ≡ tipset_judged blocks codes n t
one_judged blocks codes n t = by (state_at blocks t.root codes) refl where
  by : (r : Result State StateFault) → state_at blocks t.root codes ≡ r → tipset_judged blocks codes n (without_messages t) ≡ tipset_judged blocks codes n t
  by (Err fault) refused = no_state blocks codes n (without_messages t) fault refused ∙ sym (no_state blocks codes n t fault refused)
  by (Ok s) loads =
      judged_over blocks codes n (without_messages t) s loads
      ∙ ap (λ (a : ℕ). cond (not (all_below_next s)) (Some (Next n)) (cond (not (has_room_for a s)) (Some (Total n)) None)) (ap (λ (ns : List ℕ). sum ns) (bare_awards t.blocks))
      ∙ sym (judged_over blocks codes n t s loads)

pub bare_judged : (blocks : List BlockParts) (codes : Codes) (n : ℕ) (ts : List Tipset) → tipsets_judged blocks codes n (map without_messages ts) ≡ tipsets_judged blocks codes n ts
bare_judged blocks codes n [] = refl
bare_judged blocks codes n (t ∷ ts) = λ i. or_else (one_judged blocks codes n t i) (bare_judged blocks codes (n + 1) ts i)

bare_wide : (ts : List Tipset) → list_any is_wide (map without_messages ts) ≡ list_any is_wide ts
bare_wide [] = refl
bare_wide (t ∷ ts) = λ i. ltb 256 (length-map t.blocks emptied i) || bare_wide ts i

bare_few : (ts : List Tipset) → All IsTipset ts → All (λ t. length t.blocks ≤ 256) (map without_messages ts)
bare_few ts all =
    All-map (λ t. length t.blocks ≤ 256) without_messages ts
    (All-weaker IsTipset (λ t. length (map emptied t.blocks) ≤ 256) (λ t is. omega (arith, is.count, length-map t.blocks emptied)) ts all)

-- ---- what is kept of tipsets

kept_count : (kept : Outlines) (ts : List Tipset) → AreOutlines kept ts → length kept.tipsets.items ≡ length ts
kept_count kept ts are = ap (λ (xs : List Tipset). length xs) are.bare ∙ length-map ts without_messages

-- the limits are those of the tipsets
pub same_limit : (o : Outline) (ts : List Tipset) → AreOutlines o.kept ts → outline_limit o ≡ exceeded_limit (raw_scenario o ts)
same_limit o ts are =
    let wide : list_any is_wide o.kept.tipsets.items ≡ list_any is_wide ts = ap (list_any is_wide) are.bare ∙ bare_wide ts in
    λ i. first_of_six (is_outside o.rules.depth 64) (is_outside o.rules.pages 512) (ltb 1024 (kept_count o.kept ts are i)) (wide i) (are.long_block i) (are.long_message i)

pub kept_few : (kept : Outlines) (ts slice : List Tipset) → slice ≡ kept.tipsets.items → AreOutlines kept ts → length ts ≤ 1024 → length slice ≤ 1024
kept_few kept ts slice same are few = omega (arith, ap (λ (xs : List Tipset). length xs) same, kept_count kept ts are)

pub kept_blocks_few : (kept : Outlines) (ts slice : List Tipset) → slice ≡ kept.tipsets.items → AreOutlines kept ts → All IsTipset ts → All (λ t. length t.blocks ≤ 256) slice
kept_blocks_few kept ts slice same are all = All-same (λ t. length t.blocks ≤ 256) slice (map without_messages ts) (same ∙ are.bare) (bare_few ts all)

pub kept_judged : (blocks : List BlockParts) (codes : Codes) (kept : Outlines) (ts slice : List Tipset) (found : Option ScenarioFault) → slice ≡ kept.tipsets.items → AreOutlines kept ts → tipsets_judged blocks codes 0 slice ≡ found
    → tipsets_judged blocks codes 0 ts ≡ found
kept_judged blocks codes kept ts slice found same are judged =
    sym (bare_judged blocks codes 0 ts) ∙ ap (tipsets_judged blocks codes 0) (sym (same ∙ are.bare)) ∙ judged

-- ---- one tipset more

any_last : (p : Tipset → Bool) (done : List Tipset) (t : Tipset) (before one after : Bool) → before ≡ list_any p done → one ≡ p t → after ≡ (before || one) → after ≡ list_any p (done ++ t ∷ [])
any_last p done t before one after so_far own is =
    is ∙ (λ i. so_far i || (own ∙ sym (or-false (p t))) i) ∙ sym (list_any-append p done (t ∷ []))

pub kept_more : (old new : Outlines) (done : List Tipset) (t bare : Tipset) (full long : Bool) → AreOutlines old done → bare ≡ without_messages t → new.tipsets.items ≡ old.tipsets.items ++ bare ∷ []
    → full ≡ has_long_block t → long ≡ has_long_message t → new.has_long_block ≡ (old.has_long_block || full) → new.has_long_message ≡ (old.has_long_message || long) → AreOutlines new (done ++ t ∷ [])
kept_more old new done t bare full long are is pushed full_is long_is block message = record {
  bare = pushed ∙ (λ i. are.bare i ++ is i ∷ []) ∙ sym (map-append without_messages done (t ∷ []));
  long_block = any_last has_long_block done t old.has_long_block full new.has_long_block are.long_block full_is block;
  long_message = any_last has_long_message done t old.has_long_message long new.has_long_message are.long_message long_is message;
}

-- what is kept where some of the values are read
pub record KeptSoFar (values : List Value) (i : ℕ) (kept : Outlines) : Type 0 where
  pub done : List Tipset
  pub so_far : SoFar tipset_read values i done
  pub outlines : AreOutlines kept done

pub kept_none : (values : List Value) (kept : Outlines) → AreOutlines kept [] → KeptSoFar values 0 kept
kept_none values kept none = record { done = []; so_far = each_none tipset_read values [] refl; outlines = none }
