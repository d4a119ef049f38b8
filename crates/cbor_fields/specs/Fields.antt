-- The fields of a list: its items, each read as what stands at its place.
use Rattle.std.specs.Prelude.{ℕ, List, Option, None, Some, Result, Ok, Err, slice_get}
use Rattle.dag_cbor.specs.declared.value.Value.{Value}
use Rattle.cbor_fields.specs.declared.field_fault.FieldFault.{FieldFault}
use Rattle.cbor_fields.specs.declared.field_fault.FieldKind.{FieldKind}
use Rattle.cbor_fields.specs.declared.field_fault.FieldKind.TheVariants.{WrongLength}

-- a fault of the item at a place
abbrev pub fault_at : ℕ → FieldKind → FieldFault
fault_at at kind = record { index = at; kind = kind }

-- what was read at a place
abbrev pub placed : {X : Type 0} → ℕ → Result X FieldKind → Result X FieldFault
placed at (Ok x) = Ok x
placed at (Err kind) = Err (fault_at at kind)

-- an item as it is read, if it is there
abbrev pub item_read : {X : Type 0} → (Value → Result X FieldKind) → Option Value → Result X FieldKind
item_read read None = Err WrongLength
item_read read (Some value) = read value

-- the item at a place of a list, as it is read
abbrev pub field : {X : Type 0} → (Value → Result X FieldKind) → List Value → ℕ → Result X FieldFault
field read items at = placed at (item_read read (slice_get items at))
