-- Values as the bytes that spell them.
use Rattle.std.specs.Prelude.{◌≡◌, ℕ, ◌<◌, ◌^◌, All, List, length, map}
use Rattle.std.specs.declared.result.Result.{Result}
use Rattle.std.specs.declared.result.Result.TheVariants.{Err, Ok}
use Rattle.dag_cbor.specs.Reading.{whole_at}
use Rattle.dag_cbor.specs.Spelling.{spelled}
use Rattle.dag_cbor.specs.declared.fault.Flaw.{Flaw}
use Rattle.dag_cbor.specs.declared.value.Value.{Value}
use Rattle.dag_cbor.specs.declared.value.Value.TheVariants as v
use Rattle.scenario_form.specs.Parts.{IsPart}

-- a value that was read, or null
abbrev pub or_null : Result Value Flaw → Value
or_null (Ok value) = value
or_null (Err flaw) = v.Null

-- the value that bytes spell, or null
unfoldable pub the_value : List ℕ → Value
the_value bytes = or_null (whole_at bytes)

-- the values that they spell
abbrev pub the_values : List (List ℕ) → List Value
the_values texts = map the_value texts

-- bytes spell a value that stands in a block
pub record IsPartText (bytes : List ℕ) : Type 0 where
  pub part : IsPart (the_value bytes)
  pub same : bytes ≡ spelled (the_value bytes)

-- so do these, of which there are few
pub record ArePartTexts (texts : List (List ℕ)) : Type 0 where
  pub each : All IsPartText texts
  pub few : length texts < 2 ^ 32
