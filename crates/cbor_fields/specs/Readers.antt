-- What a value of DAG-CBOR is read as (the IPLD data model, "Kinds").
use Rattle.std.specs.Prelude.{ℕ, ℤ, pos, negsuc, ◌^◌, nat_lt, nat_le, ◌==◌, ◌&&◌, if◌then◌else◌, List, length, bytes_eq, Result, Ok, Err}
use Rattle.std.specs.Int.Digits.{number_from_digits}
use Rattle.fil_base.specs.Amount.{amount}
use Rattle.fil_base.specs.CidParts.{CidParts}
use Rattle.fil_base.specs.declared.token.TheConstants.{GREATEST_AMOUNT}
use Rattle.dag_cbor.specs.declared.value.Value.{Value, Value-F, out-Value}
use Rattle.dag_cbor.specs.declared.value.Value.TheOpen as layer
use Rattle.cbor_fields.specs.declared.field_fault.FieldKind.{FieldKind}
use Rattle.cbor_fields.specs.declared.field_fault.FieldKind.TheVariants.{WrongKind, WrongLength, OutOfRange}

-- an integer as a number from 0 to 2^64 - 1
abbrev pub number_of : ℤ → Result ℕ FieldKind
number_of (pos n) = if nat_lt n (2 ^ 64) then Ok n else Err OutOfRange
number_of (negsuc n) = Err OutOfRange

-- the amount that is spelled by all of the bytes, and is not above the greatest
unfoldable pub amount_of : List ℕ → Result ℕ FieldKind
amount_of bytes = if bytes_eq bytes (amount n) && nat_le n GREATEST_AMOUNT then Ok n else Err OutOfRange where
  n : ℕ
  n = number_from_digits 256 bytes

-- the number of an integer
abbrev pub u64_layer : Value-F Value → Result ℕ FieldKind
u64_layer (layer.Int number) = number_of number
u64_layer other = Err WrongKind

-- the amount of the byte string that spells it
abbrev pub token_layer : Value-F Value → Result ℕ FieldKind
token_layer (layer.Blob bytes) = amount_of bytes
token_layer other = Err WrongKind

-- the CID of a link
abbrev pub cid_layer : Value-F Value → Result CidParts FieldKind
cid_layer (layer.Link cid) = Ok cid
cid_layer other = Err WrongKind

-- the bytes of a byte string
abbrev pub bytes_layer : Value-F Value → Result (List ℕ) FieldKind
bytes_layer (layer.Blob bytes) = Ok bytes
bytes_layer other = Err WrongKind

-- the items of a list
abbrev pub items_layer : Value-F Value → Result (List Value) FieldKind
items_layer (layer.List items) = Ok items
items_layer other = Err WrongKind

-- the items of a list of this length
abbrev pub list_layer : ℕ → Value-F Value → Result (List Value) FieldKind
list_layer len (layer.List items) = if length items == len then Ok items else Err WrongLength
list_layer len other = Err WrongLength

-- a value as a number
abbrev pub u64_of : Value → Result ℕ FieldKind
u64_of value = u64_layer (out-Value value)

-- a value as an amount
abbrev pub token_of : Value → Result ℕ FieldKind
token_of value = token_layer (out-Value value)

-- a value as a CID
abbrev pub cid_of : Value → Result CidParts FieldKind
cid_of value = cid_layer (out-Value value)

-- a value as bytes
abbrev pub bytes_of : Value → Result (List ℕ) FieldKind
bytes_of value = bytes_layer (out-Value value)

-- a value as a list of any length
abbrev pub items_of : Value → Result (List Value) FieldKind
items_of value = items_layer (out-Value value)

-- a value as a list of this length
abbrev pub list_of : Value → ℕ → Result (List Value) FieldKind
list_of value len = list_layer len (out-Value value)
