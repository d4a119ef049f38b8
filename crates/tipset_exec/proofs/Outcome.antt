-- The actors that a run leaves are those of the report.
use Rattle.std.proofs.Common.{◌≡◌, ℕ, ◌<◌, List, [], ◌∷◌, length, map, get_or, refl, sym, ap, ◌∙◌, arith}
use Rattle.std.proofs.lemmas.List.{get_or-map, length-map, same_lists}
use Rattle.fil_message.specs.declared.form0.Form0.{Form0}
use Rattle.fil_message.specs.declared.form0.Form0Actor.{Form0Actor}
use Rattle.fil_message.specs.declared.form0.Form0Message.{Form0Message}
use Rattle.tipset_exec.specs.Accounts.{Accounts, accounts_of}
use Rattle.tipset_exec.specs.Report.{actor_with, exits, final, report_of}
use Rattle.tipset_exec.specs.Ledger.{ids, id_at, IsLedger}
use Rattle.tipset_exec.proofs.Lookup.{rises_from, get_at, id_there}

actor_with-id_at : (actors : List Form0Actor) → IsLedger actors → (i : ℕ) (d : Form0Actor) → i < length actors → actor_with (accounts_of actors) (id_at actors i) ≡ get_or actors i d
actor_with-id_at actors ledger i d within =
    rw (get_at actors (rises_from actors ledger.order) i d within) (ap (λ id. record { id = id; nonce = (get_or actors i d).nonce; balance = (get_or actors i d).balance }) (sym (id_there actors i d within)))

-- listed actors are their IDs with the accounts that they have
map-actor_with : (actors : List Form0Actor) → IsLedger actors → map (actor_with (accounts_of actors)) (ids actors) ≡ actors
map-actor_with actors ledger =
    let count : length (ids actors) ≡ length actors = length-map actors (λ a. a.id) in
    let s = accounts_of actors in
    same_lists _ _ (length-map (ids actors) (actor_with s) ∙ count) (λ k d within.
    let there : k < length actors = omega (arith, length-map (ids actors) (actor_with s)) in
    get_or-map (actor_with s) (ids actors) k 0 d (omega arith) ∙ actor_with-id_at actors ledger k d there)

map-ids : (s : Accounts) (actors : List Form0Actor) → map (actor_with s) (ids actors) ≡ map (λ a. actor_with s a.id) actors
map-ids s [] = refl
map-ids s (a ∷ rest) = ap (λ others. actor_with s a.id ∷ others) (map-ids s rest)

-- so the actors at the end are those at the start with the accounts at the end
listed_after : (s : Accounts) (old new : List Form0Actor) → IsLedger new → ids new ≡ ids old → accounts_of new ≡ s → new ≡ map (λ a. actor_with s a.id) old
listed_after s old new ledger same end =
    sym (map-actor_with new ledger) ∙ (ap (λ t. map (actor_with t) (ids new)) end ∙ (ap (map (actor_with s)) same ∙ map-ids s old))

pub report_is : (f : Form0) (start new : List Form0Actor) (ms : List Form0Message) (done : List ℕ) → start ≡ f.actors → ms ≡ f.messages → IsLedger new → ids new ≡ ids start → accounts_of new ≡ final (accounts_of start) ms → done ≡ exits (accounts_of start) ms → record { epoch = f.epoch; exits = done; actors = new } ≡ report_of f
unfolding report_of
report_is f start new ms done from sent ledger same end ended =
    let actors : new ≡ map (λ a. actor_with (final (accounts_of f.actors) f.messages) a.id) f.actors = listed_after _ f.actors new ledger (same ∙ ap ids from) (end ∙ (λ i. final (accounts_of (from i)) (sent i))) in
    let all : done ≡ exits (accounts_of f.actors) f.messages = ended ∙ (λ i. exits (accounts_of (from i)) (sent i)) in
    λ i. record { epoch = f.epoch; exits = all i; actors = actors i }
