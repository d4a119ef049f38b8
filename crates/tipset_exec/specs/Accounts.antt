-- What a message does: over a finite map from the listed IDs to accounts.
use Rattle.std.specs.Prelude.{ℕ, ◌+◌, ◌-◌, ◌==◌, ◌||◌, not, List, map, unwrap_or, is_none, nat_lt, if◌then◌else◌}
use Rattle.std.specs.Ordering.{nat_cmp}
use Rattle.std.specs.FinMap.{FinMap, get, insert, from_entries}
use Rattle.fil_base.specs.declared.exit_code.TheConstants.{EXIT_OK, SYS_SENDER_INVALID, SYS_SENDER_STATE_INVALID, SYS_INVALID_RECEIVER, SYS_INSUFFICIENT_FUNDS}
use Rattle.fil_message.specs.declared.form0.Form0Actor.{Form0Actor}
use Rattle.fil_message.specs.declared.form0.Form0Message.{Form0Message}

-- the nonce of an actor's next message, and what the actor has
pub record Account : Type 0 where
  pub nonce : ℕ
  pub balance : ℕ

abbrev pub Accounts : Type 0
Accounts = FinMap nat_cmp Account

-- the accounts of the listed actors, by ID
unfoldable pub accounts_of : List Form0Actor → Accounts
accounts_of actors = from_entries (map (λ a. (a.id, record { nonce = a.nonce; balance = a.balance })) actors)

-- the account of an actor; an actor that is not listed has nothing
abbrev pub account : Accounts → ℕ → Account
account s id = unwrap_or (get s id) (record { nonce = 0; balance = 0 })

-- how a message ends: the first cause that holds
unfoldable pub exit_of : Accounts → Form0Message → ℕ
exit_of s m =
    if is_none (get s m.from) then SYS_SENDER_INVALID
    else (if not ((account s m.from).nonce == m.nonce) then SYS_SENDER_STATE_INVALID
    else (if is_none (get s m.to) then SYS_INVALID_RECEIVER
    else (if nat_lt (account s m.from).balance m.value then SYS_INSUFFICIENT_FUNDS
    else EXIT_OK)))

-- the accounts with one nonce higher by one, one balance lower, one balance higher
abbrev pub with_next_nonce : Accounts → ℕ → Accounts
with_next_nonce s id = insert s id (record (account s id) { nonce = (account s id).nonce + 1 })

abbrev pub without : Accounts → ℕ → ℕ → Accounts
without s id value = insert s id (record (account s id) { balance = (account s id).balance - value })

abbrev pub with_more : Accounts → ℕ → ℕ → Accounts
with_more s id value = insert s id (record (account s id) { balance = (account s id).balance + value })

-- the accounts after a message: as before where its sender may not send it; else the sender's nonce is
-- higher by one, and where the message ends well the value has moved
unfoldable pub after : Accounts → Form0Message → Accounts
after s m =
    if exit_of s m == SYS_SENDER_INVALID || exit_of s m == SYS_SENDER_STATE_INVALID then s
    else (if exit_of s m == EXIT_OK then with_more (without (with_next_nonce s m.from) m.from m.value) m.to m.value
    else with_next_nonce s m.from)
