-- How an account list is laid out as a value of DAG-CBOR.
use Rattle.std.specs.Prelude.{[], ◌∷◌, map, pos}
use Rattle.fil_base.specs.Amount.{amount}
use Rattle.dag_cbor.specs.declared.value.Value.{Value}
use Rattle.dag_cbor.specs.declared.value.Value.TheVariants as value
use Rattle.fil_message.specs.declared.form0.Form0.{Form0}
use Rattle.fil_message.specs.declared.form0.Form0Actor.{Form0Actor}
use Rattle.fil_message.specs.declared.form0.Form0Message.{Form0Message}

-- [id, nonce, balance], the balance as the bytes of an amount
abbrev pub actor_value : Form0Actor → Value
actor_value a = value.List (value.Int (pos a.id) ∷ (value.Int (pos a.nonce) ∷ (value.Blob (amount a.balance) ∷ [])))

-- [from, to, nonce, value]
abbrev pub message_value : Form0Message → Value
message_value m = value.List (value.Int (pos m.from) ∷ (value.Int (pos m.to) ∷ (value.Int (pos m.nonce) ∷ (value.Blob (amount m.value) ∷ []))))

-- [0, epoch, actors, messages]
abbrev pub form_value : Form0 → Value
form_value f = value.List (value.Int (pos 0) ∷ (value.Int (pos f.epoch) ∷ (value.List (map actor_value f.actors) ∷ (value.List (map message_value f.messages) ∷ []))))
