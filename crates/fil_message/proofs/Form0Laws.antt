-- Account lists are read back from their layout, and what is read as one is its layout.
use Rattle.std.proofs.Common.{◌≡◌, ℕ, zero, suc, ◌+◌, ◌-◌, ◌^◌, ◌<◌, ◌≤◌, Bool, true, false, cond, leb, ltb, List, [], ◌∷◌, length, get_or, map, sum, min, pos, Option, None, Some, Result, Ok, Err, inl, inr, refl, sym, ap, subst, ◌∙◌, ◌⊎◌, arith}
use Rattle.std.specs.Prelude.{All}
use Rattle.std.specs.List.{AllByRecursion}
use Rattle.std.specs.List.Sorted.{IsStrictlyIncreasing}
use Rattle.std.proofs.lemmas.Bool.{cases_Bool, ltb-true}
use Rattle.std.proofs.lemmas.Bool.Decides.{nat_tests}
use Rattle.std.proofs.lemmas.List.{length-map}
use Rattle.std.proofs.lemmas.List.Elements.{All-from_recursion, recursion_from_All}
use Rattle.fil_base.specs.Amount.{amount}
use Rattle.fil_base.specs.declared.token.TheConstants.{GREATEST_AMOUNT}
use Rattle.dag_cbor.specs.declared.value.Value.{Value}
use Rattle.dag_cbor.specs.declared.value.Value.TheVariants as v
use Rattle.cbor_fields.specs.Fields.{field}
use Rattle.cbor_fields.specs.Readers.{items_of, token_of, u64_of}
use Rattle.cbor_fields.specs.declared.field_fault.FieldFault.{FieldFault}
use Rattle.cbor_fields.proofs.ReadBack.{read_amount, read_items, read_list, read_number}
use Rattle.fil_message.specs.Form0Layout.{actor_value, form_value, message_value}
use Rattle.fil_message.specs.Form0Reading.{actor_of, fields_read, form0_of, in_form, judged, not_above, transfer_of}
use Rattle.fil_message.specs.Form0Sound.{IsForm0, IsListed, IsTransfer}
use Rattle.fil_message.specs.Reading.{fields_of}
use Rattle.fil_message.specs.Readers.{all_read, just, up_to}
use Rattle.fil_message.specs.declared.form0.Form0.{Form0}
use Rattle.fil_message.specs.declared.form0.Form0Actor.{Form0Actor}
use Rattle.fil_message.specs.declared.form0.Form0Message.{Form0Message}
use Rattle.fil_message.specs.declared.form_fault.FormFault.{FormFault}
use Rattle.fil_message.specs.declared.form_fault.FormFault.TheVariants.{Order, Total}
use Rattle.fil_message.proofs.FieldLaws.{amount_at, items_are, just_again, just_at, list_at, list_gives, number_at, up_to_again, up_to_at}
use Rattle.fil_message.proofs.Order.{ids, rises_always, rises_if_none}
use Rattle.fil_message.proofs.ReadSteps.{both_read, in_form_ok}

-- ---- actors and messages

actor_again : (a : Form0Actor) → IsListed a → actor_of (actor_value a) ≡ Ok a
unfolding actor_of
actor_again a is =
    rw (
      read_list (v.Int (pos a.id) ∷ (v.Int (pos a.nonce) ∷ (v.Blob (amount a.balance) ∷ []))),
      up_to_again (2 ^ 63 - 1) a.id (omega (arith, is.id)) (omega (arith, is.id)),
      read_number a.nonce is.nonce,
      read_amount a.balance is.balance,
    ) refl

actor_laid : (x : Value) (items : List Value) (id nonce balance : ℕ) → fields_of x 3 ≡ Ok items → field (up_to (2 ^ 63 - 1)) items 0 ≡ Ok id → field u64_of items 1 ≡ Ok nonce → field token_of items 2 ≡ Ok balance
    → let a : Form0Actor = record { id = id; nonce = nonce; balance = balance } in IsListed a × (x ≡ actor_value a)
actor_laid x items id nonce balance is-list is-id is-nonce is-balance =
    let list = list_gives x 3 items is-list in
    let at-id = up_to_at (2 ^ 63 - 1) id items 0 is-id in
    let at-nonce = number_at nonce items 1 is-nonce in
    let at-balance = amount_at balance items 2 is-balance in (
      record { id = omega (arith, at-id.1); nonce = at-nonce.1; balance = at-balance.1 },
      list.0 ∙ ap v.List (items_are items (v.Int (pos id) ∷ (v.Int (pos nonce) ∷ (v.Blob (amount balance) ∷ []))) list.1 (at-id.0, (at-nonce.0, (at-balance.0, tt)))),
    )

actor_read : (x : Value) (a : Form0Actor) → actor_of x ≡ Ok a → IsListed a × (x ≡ actor_value a)
unfolding actor_of
actor_read x a read =
    let items = both_read (fields_of x 3) _ a read in
    let id = both_read (field (up_to (2 ^ 63 - 1)) items.0 0) _ a items.2 in
    let nonce = both_read (field u64_of items.0 1) _ a id.2 in
    let balance = both_read (field token_of items.0 2) _ a nonce.2 in
    subst (λ (one : Form0Actor). IsListed one × (x ≡ actor_value one)) (cc balance.2) (actor_laid x items.0 id.0 nonce.0 balance.0 items.1 id.1 nonce.1 balance.1)

transfer_again : (m : Form0Message) → IsTransfer m → transfer_of (message_value m) ≡ Ok m
unfolding transfer_of
transfer_again m is =
    rw (
      read_list (v.Int (pos m.from) ∷ (v.Int (pos m.to) ∷ (v.Int (pos m.nonce) ∷ (v.Blob (amount m.value) ∷ [])))),
      up_to_again (2 ^ 63 - 1) m.from (omega (arith, is.from)) (omega (arith, is.from)),
      up_to_again (2 ^ 63 - 1) m.to (omega (arith, is.to)) (omega (arith, is.to)),
      up_to_again (2 ^ 64 - 2) m.nonce is.nonce (omega (arith, is.nonce)),
      read_amount m.value is.value,
    ) refl

transfer_laid : (x : Value) (items : List Value) (from to nonce value : ℕ) → fields_of x 4 ≡ Ok items → field (up_to (2 ^ 63 - 1)) items 0 ≡ Ok from → field (up_to (2 ^ 63 - 1)) items 1 ≡ Ok to
    → field (up_to (2 ^ 64 - 2)) items 2 ≡ Ok nonce → field token_of items 3 ≡ Ok value
    → let m : Form0Message = record { from = from; to = to; nonce = nonce; value = value } in IsTransfer m × (x ≡ message_value m)
transfer_laid x items from to nonce value is-list is-from is-to is-nonce is-value =
    let list = list_gives x 4 items is-list in
    let at-from = up_to_at (2 ^ 63 - 1) from items 0 is-from in
    let at-to = up_to_at (2 ^ 63 - 1) to items 1 is-to in
    let at-nonce = up_to_at (2 ^ 64 - 2) nonce items 2 is-nonce in
    let at-value = amount_at value items 3 is-value in (
      record { from = omega (arith, at-from.1); to = omega (arith, at-to.1); nonce = at-nonce.1; value = at-value.1 },
      list.0 ∙ ap v.List (items_are items (v.Int (pos from) ∷ (v.Int (pos to) ∷ (v.Int (pos nonce) ∷ (v.Blob (amount value) ∷ [])))) list.1 (at-from.0, (at-to.0, (at-nonce.0, (at-value.0, tt))))),
    )

transfer_read : (x : Value) (m : Form0Message) → transfer_of x ≡ Ok m → IsTransfer m × (x ≡ message_value m)
unfolding transfer_of
transfer_read x m read =
    let items = both_read (fields_of x 4) _ m read in
    let from = both_read (field (up_to (2 ^ 63 - 1)) items.0 0) _ m items.2 in
    let to = both_read (field (up_to (2 ^ 63 - 1)) items.0 1) _ m from.2 in
    let nonce = both_read (field (up_to (2 ^ 64 - 2)) items.0 2) _ m to.2 in
    let value = both_read (field token_of items.0 3) _ m nonce.2 in
    subst (λ (one : Form0Message). IsTransfer one × (x ≡ message_value one)) (cc value.2) (transfer_laid x items.0 from.0 to.0 nonce.0 value.0 items.1 from.1 to.1 nonce.1 value.1)

-- ---- rows of them

all_again : {A : Type 0} (f : Value → Result A FieldFault) (P : A → Type 0) (layout : A → Value) → ((a : A) → P a → f (layout a) ≡ Ok a) → (xs : List A) → AllByRecursion P xs → all_read f (map layout xs) ≡ Ok xs
all_again f P layout again [] all = refl
all_again f P layout again (x ∷ xs) (first, all) = rw (again x first, all_again f P layout again xs all) refl

abbrev AreLaidOut : {A : Type 0} → (A → Type 0) → (A → Value) → List Value → List A → Type 0
AreLaidOut P layout items xs = AllByRecursion P xs × (items ≡ map layout xs)

all_give : {A : Type 0} (f : Value → Result A FieldFault) (P : A → Type 0) (layout : A → Value) → ((x : Value) (a : A) → f x ≡ Ok a → P a × (x ≡ layout a)) → (items : List Value) (xs : List A) → all_read f items ≡ Ok xs
    → AreLaidOut P layout items xs
all_give f P layout gives [] xs read = (let none : [] ≡ xs = cc read in subst (AreLaidOut P layout []) none (tt, refl))
all_give f P layout gives (item ∷ items) xs read =
    let first = both_read (f item) _ xs read in
    let rest = both_read (all_read f items) _ xs first.2 in
    let own = gives item first.0 first.1 in
    let others = all_give f P layout gives items rest.0 rest.1 in
    let whole : first.0 ∷ rest.0 ≡ xs = cc rest.2 in
    subst (AreLaidOut P layout (item ∷ items)) whole ((own.0, others.0), λ k. own.1 k ∷ others.1 k)

-- ---- account lists

judged_again : (f : Form0) → IsForm0 f → judged f ≡ Ok f
judged_again f is =
    let fits : leb (sum (map (λ a. a.balance) f.actors)) GREATEST_AMOUNT ≡ true = grind (arith, nat_tests, is.total) in
    rw (rises_always (ids f.actors) is.order, fits) refl

pub form_again : (f : Form0) → IsForm0 f → form0_of (form_value f) ≡ Ok f
unfolding fields_read
form_again f is =
    rw (
      read_list (v.Int (pos 0) ∷ (v.Int (pos f.epoch) ∷ (v.List (map actor_value f.actors) ∷ (v.List (map message_value f.messages) ∷ [])))),
      just_again 0 (omega arith),
      up_to_again (2 ^ 63 - 1) f.epoch (omega (arith, is.epoch)) (omega (arith, is.epoch)),
      read_items (map actor_value f.actors),
      all_again actor_of IsListed actor_value actor_again f.actors (recursion_from_All IsListed f.actors is.actors),
      read_items (map message_value f.messages),
      all_again transfer_of IsTransfer message_value transfer_again f.messages (recursion_from_All IsTransfer f.messages is.messages),
    ) (judged_again f is)

some_or_none : (o : Option ℕ) → (o ≡ None) ⊎ ((at : ℕ) × (o ≡ Some at))
some_or_none None = inl refl
some_or_none (Some at) = inr (at, refl)

record IsJudged (f g : Form0) : Type 0 where
  same : f ≡ g
  order : IsStrictlyIncreasing (ids f.actors)
  total : sum (map (λ a. a.balance) f.actors) ≤ GREATEST_AMOUNT

judged_gives : (f g : Form0) → judged f ≡ Ok g → IsJudged f g
judged_gives f g is =
    elim (some_or_none (not_above 0 (ids f.actors))) [
      | inr falls ↦ absurd (let wrong : Err (Order (min falls.0 (2 ^ 32 - 1))) ≡ Ok g = (rw falls.1 at is) in cc)
      | inl rises ↦ elim (cases_Bool (leb (sum (map (λ a. a.balance) f.actors)) GREATEST_AMOUNT)) [
        | inl fits ↦ record {
          same = (let found : Ok f ≡ Ok g = (rw (rises, fits) at is) in cc);
          order = rises_if_none (ids f.actors) rises;
          total = grind (arith, nat_tests, fits);
        }
        | inr much ↦ absurd (let wrong : Err Total ≡ Ok g = (rw (rises, much) at is) in cc)
      ]
    ]

record AreFields (x : Value) (f : Form0) : Type 0 where
  epoch : f.epoch < 2 ^ 63
  actors : All IsListed f.actors
  messages : All IsTransfer f.messages
  is : x ≡ form_value f

fields_laid : (x : Value) (items listed sent : List Value) (form epoch : ℕ) (actors : List Form0Actor) (messages : List Form0Message) → fields_of x 4 ≡ Ok items → field (just 0) items 0 ≡ Ok form
    → field (up_to (2 ^ 63 - 1)) items 1 ≡ Ok epoch → field items_of items 2 ≡ Ok listed → all_read actor_of listed ≡ Ok actors → field items_of items 3 ≡ Ok sent → all_read transfer_of sent ≡ Ok messages
    → AreFields x record { epoch = epoch; actors = actors; messages = messages }
fields_laid x items listed sent form epoch actors messages is-list is-form is-epoch is-listed is-actors is-sent is-messages =
    let list = list_gives x 4 items is-list in
    let at-epoch = up_to_at (2 ^ 63 - 1) epoch items 1 is-epoch in
    let actors-are = all_give actor_of IsListed actor_value actor_read listed actors is-actors in
    let messages-are = all_give transfer_of IsTransfer message_value transfer_read sent messages is-messages in
    record {
      epoch = omega (arith, at-epoch.1);
      actors = All-from_recursion IsListed actors actors-are.0;
      messages = All-from_recursion IsTransfer messages messages-are.0;
      is = list.0 ∙ ap v.List (items_are items (v.Int (pos 0) ∷ (v.Int (pos epoch) ∷ (v.List (map actor_value actors) ∷ (v.List (map message_value messages) ∷ [])))) list.1
          (just_at 0 form items 0 is-form, (at-epoch.0, (list_at listed items 2 is-listed ∙ ap (λ (xs : List Value). Some (v.List xs)) actors-are.1, (list_at sent items 3 is-sent ∙ ap (λ (xs : List Value). Some (v.List xs)) messages-are.1, tt)))));
    }

fields_give : (x : Value) (f : Form0) → fields_read x ≡ Ok f → AreFields x f
unfolding fields_read
fields_give x f read =
    let items = both_read (fields_of x 4) _ f read in
    let form = both_read (field (just 0) items.0 0) _ f items.2 in
    let epoch = both_read (field (up_to (2 ^ 63 - 1)) items.0 1) _ f form.2 in
    let listed = both_read (field items_of items.0 2) _ f epoch.2 in
    let actors = both_read (all_read actor_of listed.0) _ f listed.2 in
    let sent = both_read (field items_of items.0 3) _ f actors.2 in
    let messages = both_read (all_read transfer_of sent.0) _ f sent.2 in
    subst (AreFields x) (cc messages.2)
    (fields_laid x items.0 listed.0 sent.0 form.0 epoch.0 actors.0 messages.0 items.1 form.1 epoch.1 listed.1 actors.1 sent.1 messages.1)

pub form_read : (x : Value) (f : Form0) → form0_of x ≡ Ok f → IsForm0 f × (x ≡ form_value f)
form_read x f read =
    let fields = both_read (in_form (fields_read x)) judged f read in
    let are = fields_give x fields.0 (in_form_ok (fields_read x) fields.0 (sym fields.1)) in
    let judges = judged_gives fields.0 f fields.2 in
    subst (λ (g : Form0). IsForm0 g × (x ≡ form_value g)) judges.same
    (record { epoch = are.epoch; actors = are.actors; messages = are.messages; order = judges.order; total = judges.total }, are.is)
