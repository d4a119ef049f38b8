-- How messages and receipts are laid out as values of DAG-CBOR (the Filecoin specification, "Messages").
use Rattle.std.specs.Prelude.{ℕ, List, [], ◌∷◌, pos}
use Rattle.fil_address.specs.AddressBytes.{address}
use Rattle.fil_base.specs.Amount.{amount}
use Rattle.dag_cbor.specs.Spelling.{spelled}
use Rattle.dag_cbor.specs.declared.value.Value.{Value}
use Rattle.dag_cbor.specs.declared.value.Value.TheVariants as v
use Rattle.fil_message.specs.declared.message.Message.{Message}
use Rattle.fil_message.specs.declared.receipt.Receipt.{Receipt}

-- a number
abbrev pub number_value : ℕ → Value
number_value n = v.Int (pos n)

-- an amount, as its bytes
abbrev pub amount_value : ℕ → Value
amount_value n = v.Blob (amount n)

-- [0, to, from, nonce, value, gas limit, gas fee cap, gas premium, method, params]
abbrev pub message_value : Message → Value
message_value m =
    v.List (number_value 0 ∷ v.Blob (address m.to) ∷ v.Blob (address m.from) ∷ number_value m.nonce ∷ amount_value m.value
    ∷ number_value m.limit ∷ amount_value m.cap ∷ amount_value m.premium ∷ number_value m.method ∷ v.Blob m.params ∷ [])

-- [exit code, return, gas used]
abbrev pub receipt_value : Receipt → Value
receipt_value r = v.List (number_value r.exit ∷ v.Blob r.returned ∷ number_value r.used ∷ [])

-- the encodings
abbrev pub message_spelling : Message → List ℕ
message_spelling m = spelled (message_value m)

abbrev pub receipt_spelling : Receipt → List ℕ
receipt_spelling r = spelled (receipt_value r)
