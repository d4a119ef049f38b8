-- The message that a value is, or the first field that is none.
use Rattle.std.specs.Prelude.{ℕ, ◌-◌, ◌^◌, List, Result, Ok, Err}
use Rattle.dag_cbor.specs.declared.value.Value.{Value}
use Rattle.cbor_fields.specs.Fields.{fault_at, field, placed}
use Rattle.cbor_fields.specs.Readers.{bytes_of, list_of, token_of, u64_of}
use Rattle.cbor_fields.specs.declared.field_fault.FieldFault.{FieldFault}
use Rattle.fee_rules.specs.declared.fees.TheConstants.{BLOCK_GAS_LIMIT}
use Rattle.fil_message.specs.Readers.{address_of, if_read, just, up_to}
use Rattle.fil_message.specs.declared.message.Message.{Message}

-- a list of so many items; any other value is a fault of its first item
abbrev pub fields_of : Value → ℕ → Result (List Value) FieldFault
fields_of value len = placed 0 (list_of value len)

-- the fields in their order
unfoldable pub message_of : Value → Result Message FieldFault
message_of value =
    if_read (fields_of value 10) (λ items. if_read (field (just 0) items 0) (λ version.
    if_read (field address_of items 1) (λ to. if_read (field address_of items 2) (λ from.
    if_read (field (up_to (2 ^ 64 - 2)) items 3) (λ nonce. if_read (field token_of items 4) (λ value.
    if_read (field (up_to BLOCK_GAS_LIMIT) items 5) (λ limit. if_read (field token_of items 6) (λ cap.
    if_read (field token_of items 7) (λ premium. if_read (field u64_of items 8) (λ method.
    if_read (field bytes_of items 9) (λ params.
    Ok (record {
      to = to;
      from = from;
      nonce = nonce;
      value = value;
      limit = limit;
      cap = cap;
      premium = premium;
      method = method;
      params = params;
    }))))))))))))
