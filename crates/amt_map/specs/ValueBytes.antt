-- Values as the bytes that spell them.
use Rattle.std.specs.Prelude.{◌≡◌, ℕ, List, [], ◌++◌}
use Rattle.std.specs.declared.option.Option.{Option}
use Rattle.std.specs.declared.option.Option.TheVariants.{None, Some}
use Rattle.dag_cbor.specs.Plain.{IsPlain}
use Rattle.dag_cbor.specs.Spelling.{spelled}
use Rattle.dag_cbor.specs.declared.value.Value.{Value, out-Value}
use Rattle.dag_cbor.specs.declared.value.Value.TheVariants as v
use Rattle.tree_blocks.specs.Forms.{items_in}
use Rattle.amt_map.specs.Walk.{value_in}

-- bytes spell one value
pub record IsOneValue (bytes : List ℕ) : Type 0 where
  pub value : Value
  pub plain : IsPlain 128 value
  pub same : bytes ≡ spelled value

-- a value, or null
abbrev pub or_null : Option Value → Value
or_null None = v.Null
or_null (Some value) = value

-- the value that bytes spell, or null
unfoldable pub the_value : List ℕ → Value
the_value bytes = or_null (value_in bytes)

-- items, or none
abbrev pub or_none : Option (List Value) → List Value
or_none None = []
or_none (Some items) = items

-- the items of the list that bytes spell, or none
unfoldable pub the_items : List ℕ → List Value
the_items bytes = or_none (items_in (out-Value (the_value bytes)))

-- bytes spell a list
pub record IsOneList (bytes : List ℕ) : Type 0 where
  pub one : IsOneValue bytes
  pub list : the_value bytes ≡ v.List (the_items bytes)

-- bytes begin with the spelling of a value
pub record IsFront (bytes : List ℕ) : Type 0 where
  pub value : Value
  pub rest : List ℕ
  pub plain : IsPlain 128 value
  pub same : bytes ≡ spelled value ++ rest
