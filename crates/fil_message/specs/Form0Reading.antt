-- The account list that a value is, or the first cause why it is none: first the fields in their order, then the order of
-- the IDs, then the total.
use Rattle.std.specs.Prelude.{ℕ, ◌+◌, ◌-◌, ◌^◌, List, [], ◌∷◌, map, nat_le, nat_lt, min, sum, Result, Ok, Err, if◌then◌else◌}
use Rattle.std.specs.declared.option.Option.{Option}
use Rattle.std.specs.declared.option.Option.TheVariants.{None, Some}
use Rattle.fil_base.specs.declared.token.TheConstants.{GREATEST_AMOUNT}
use Rattle.dag_cbor.specs.declared.value.Value.{Value}
use Rattle.cbor_fields.specs.Fields.{field}
use Rattle.cbor_fields.specs.Readers.{items_of, token_of, u64_of}
use Rattle.cbor_fields.specs.declared.field_fault.FieldFault.{FieldFault}
use Rattle.fil_message.specs.Readers.{all_read, if_read, just, up_to}
use Rattle.fil_message.specs.Reading.{fields_of}
use Rattle.fil_message.specs.declared.form0.Form0.{Form0}
use Rattle.fil_message.specs.declared.form0.Form0Actor.{Form0Actor}
use Rattle.fil_message.specs.declared.form0.Form0Message.{Form0Message}
use Rattle.fil_message.specs.declared.form_fault.FormFault.{FormFault}
use Rattle.fil_message.specs.declared.form_fault.FormFault.TheVariants.{Field, Order, Total}

-- [id, nonce, balance]
unfoldable pub actor_of : Value → Result Form0Actor FieldFault
actor_of value =
    if_read (fields_of value 3) (λ items. if_read (field (up_to (2 ^ 63 - 1)) items 0) (λ id.
    if_read (field u64_of items 1) (λ nonce. if_read (field token_of items 2) (λ balance.
    Ok (record { id = id; nonce = nonce; balance = balance })))))

-- [from, to, nonce, value]
unfoldable pub transfer_of : Value → Result Form0Message FieldFault
transfer_of value =
    if_read (fields_of value 4) (λ items. if_read (field (up_to (2 ^ 63 - 1)) items 0) (λ from.
    if_read (field (up_to (2 ^ 63 - 1)) items 1) (λ to. if_read (field (up_to (2 ^ 64 - 2)) items 2) (λ nonce.
    if_read (field token_of items 3) (λ value.
    Ok (record { from = from; to = to; nonce = nonce; value = value }))))))

-- [0, epoch, actors, messages], each field by itself
unfoldable pub fields_read : Value → Result Form0 FieldFault
fields_read value =
    if_read (fields_of value 4) (λ items. if_read (field (just 0) items 0) (λ form.
    if_read (field (up_to (2 ^ 63 - 1)) items 1) (λ epoch.
    if_read (field items_of items 2) (λ listed. if_read (all_read actor_of listed) (λ actors.
    if_read (field items_of items 3) (λ sent. if_read (all_read transfer_of sent) (λ messages.
    Ok (record { epoch = epoch; actors = actors; messages = messages }))))))))

-- what is read, where a fault of a field is one of the account list
abbrev pub in_form : {A : Type 0} → Result A FieldFault → Result A FormFault
in_form (Ok x) = Ok x
in_form (Err fault) = Err (Field fault)

-- the place, counted from the given one, of the first ID that is not above the one before it
abbrev pub not_above : ℕ → List ℕ → Option ℕ
not_above at [] = None
not_above at (id ∷ []) = None
not_above at (id ∷ next ∷ ids) = if nat_lt id next then not_above (at + 1) (next ∷ ids) else Some (at + 1)

-- an account list whose IDs rise and whose balances are no more than there can be; a place beyond 2^32 - 1 is given as
-- that number
abbrev pub judged : Form0 → Result Form0 FormFault
judged f = by_order (not_above 0 (map (λ a. a.id) f.actors)) where
  by_order : Option ℕ → Result Form0 FormFault
  by_order (Some at) = Err (Order (min at (2 ^ 32 - 1)))
  by_order None = if nat_le (sum (map (λ a. a.balance) f.actors)) GREATEST_AMOUNT then Ok f else Err Total

-- the account list that a value is
abbrev pub form0_of : Value → Result Form0 FormFault
form0_of value = if_read (in_form (fields_read value)) judged
