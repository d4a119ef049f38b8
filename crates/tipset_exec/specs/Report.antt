-- What running an account list gives.
use Rattle.std.specs.Prelude.{ℕ, List, [], ◌∷◌, map, fold}
use Rattle.fil_message.specs.declared.form0.Form0.{Form0}
use Rattle.fil_message.specs.declared.form0.Form0Actor.{Form0Actor}
use Rattle.fil_message.specs.declared.form0.Form0Message.{Form0Message}
use Rattle.fil_message.specs.declared.form0.Form0Report.{Form0Report}
use Rattle.tipset_exec.specs.Accounts.{Accounts, account, accounts_of, exit_of, after}

-- how each message ends, run one after another
unfoldable pub exits : Accounts → List Form0Message → List ℕ
exits s [] = []
exits s (m ∷ ms) = exit_of s m ∷ exits (after s m) ms

-- the accounts after all messages
abbrev pub final : Accounts → List Form0Message → Accounts
final s ms = fold after s ms

-- an actor with the account that it has there
abbrev pub actor_with : Accounts → ℕ → Form0Actor
actor_with s id = record { id = id; nonce = (account s id).nonce; balance = (account s id).balance }

-- the exits in order, and the listed actors with their accounts at the end
unfoldable pub report_of : Form0 → Form0Report
report_of f = record {
  epoch = f.epoch;
  exits = exits (accounts_of f.actors) f.messages;
  actors = map (λ a. actor_with (final (accounts_of f.actors) f.messages) a.id) f.actors;
}
