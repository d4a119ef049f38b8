-- What is kept of tipsets while a scenario is judged.
use Rattle.std.specs.Prelude.{◌≡◌, ℕ, List, [], map, length, nat_lt, if◌then◌else◌}
use Rattle.std.specs.List.{list_any}
use Rattle.std.specs.declared.option.Option.{Option}
use Rattle.std.specs.declared.option.Option.TheVariants.{None, Some}
use Rattle.std.specs.declared.result.Result.TheVariants.{Ok}
use Rattle.fil_message.specs.declared.tipset.TipBlock.{TipBlock}
use Rattle.fil_message.specs.declared.tipset.Tipset.{Tipset}
use Rattle.scenario_form.specs.Judging.{has_long_block, has_long_message, is_outside}
use Rattle.scenario_form.specs.Reading.{each_read, tipset_read}
use Rattle.scenario_form.specs.Spelled.{ArePartTexts, the_values}
use Rattle.scenario_form.specs.declared.outline.Outline.{Outline}
use Rattle.scenario_form.specs.declared.outline.Outlines.{Outlines}
use Rattle.scenario_form.specs.declared.raw.RawScenario.{RawScenario}

-- a block without its messages
abbrev pub emptied : TipBlock → TipBlock
emptied b = record { miner = b.miner; award = b.award; messages = [] }

-- a tipset without its messages
abbrev pub without_messages : Tipset → Tipset
without_messages t = record { epoch = t.epoch; base_fee = t.base_fee; root = t.root; blocks = map emptied t.blocks }

-- this is kept of tipsets
pub record AreOutlines (kept : Outlines) (whole : List Tipset) : Type 0 where
  pub bare : kept.tipsets.items ≡ map without_messages whole
  pub long_block : kept.has_long_block ≡ list_any has_long_block whole
  pub long_message : kept.has_long_message ≡ list_any has_long_message whole

-- the outline is that of a scenario with these tipsets, which its texts spell
pub record IsOutline (outline : Outline) (whole : List Tipset) : Type 0 where
  pub parts : ArePartTexts (map (λ s. s.now) outline.texts.items)
  pub read : each_read tipset_read 0 (the_values (map (λ s. s.now) outline.texts.items)) ≡ Ok whole
  pub outlines : AreOutlines outline.kept whole

-- the scenario itself
abbrev pub raw_scenario : Outline → List Tipset → RawScenario
raw_scenario outline whole = record { rules = outline.rules; tipsets = whole }

-- the least number of a limit that is exceeded, as the outline tells it
abbrev pub outline_limit : Outline → Option ℕ
outline_limit o =
    if is_outside o.rules.depth 64 then Some 0 else (if is_outside o.rules.pages 512 then Some 1
    else (if nat_lt 1024 (length o.kept.tipsets.items) then Some 2
    else (if list_any (λ t. nat_lt 256 (length t.blocks)) o.kept.tipsets.items then Some 3
    else (if o.kept.has_long_block then Some 4
    else (if o.kept.has_long_message then Some 5 else None)))))
