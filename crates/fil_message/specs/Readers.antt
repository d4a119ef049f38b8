-- What a field of a message is read as.
use Rattle.std.specs.Prelude.{ℕ, ◌^◌, ◌%◌, ◌==◌, ◌&&◌, List, [], ◌∷◌, bytes_eq, length, map, nat_le, nat_lt, reverse, Option, None, Some, Result, Ok, Err, if◌then◌else◌}
use Rattle.dag_cbor.specs.declared.value.Value.{Value}
use Rattle.cbor_fields.specs.Readers.{bytes_of, u64_of}
use Rattle.cbor_fields.specs.declared.field_fault.FieldKind.{FieldKind}
use Rattle.cbor_fields.specs.declared.field_fault.FieldKind.TheVariants.{OutOfRange}
use Rattle.fil_address.specs.AddressReading.{address_in}
use Rattle.fil_address.specs.declared.address.Address.{Address}

-- the answer of f for what was read, or why nothing was
abbrev pub if_read : {E A B : Type 0} → Result A E → (A → Result B E) → Result B E
if_read (Ok x) f = f x
if_read (Err fault) f = Err fault

-- what f reads of each, where it reads all; else why not of the first that it does not read
abbrev pub all_read : {E A : Type 0} → (Value → Result A E) → List Value → Result (List A) E
all_read f [] = Ok []
all_read f (value ∷ values) = if_read (f value) (λ x. if_read (all_read f values) (λ xs. Ok (x ∷ xs)))

-- what is there, or out of range
abbrev pub in_range : {A : Type 0} → Option A → Result A FieldKind
in_range None = Err OutOfRange
in_range (Some x) = Ok x

-- a number up to the greatest one
abbrev pub up_to : ℕ → Value → Result ℕ FieldKind
up_to greatest value = if_read (u64_of value) (λ n. if nat_le n greatest then Ok n else Err OutOfRange)

-- just this number
abbrev pub just : ℕ → Value → Result ℕ FieldKind
just number value = if_read (u64_of value) (λ n. if n == number then Ok n else Err OutOfRange)

-- an address, as its bytes
abbrev pub address_of : Value → Result Address FieldKind
address_of value = if_read (bytes_of value) (λ bytes. in_range (address_in bytes))
