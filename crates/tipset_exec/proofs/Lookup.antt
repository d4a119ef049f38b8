-- What the accounts of listed actors have at an ID.
use Rattle.std.proofs.Common.{◌≡◌, ℕ, zero, suc, ◌<◌, ◌≢◌, cond, eqb, ◌==◌, if◌then◌else◌, List, [], ◌∷◌, map, length, get_or, set, Option, Some, None, nat_cmp, refl, sym, ◌∙◌, arith}
use Rattle.std.specs.Ordering.{eq_by_cmp}
use Rattle.std.specs.FinMap.{get, find, get-from_entries}
use Rattle.std.specs.Cmp.{nat_cmp_total}
use Rattle.std.specs.List.Sorted.{IsStrictlyIncreasing}
use Rattle.std.proofs.lemmas.Bool.Decides.{nat_tests}
use Rattle.std.proofs.lemmas.List.{get_or-map, length-map}
use Rattle.std.proofs.lemmas.List.Kept.{AllPairs-from_increasing}
use Rattle.fil_message.specs.declared.form0.Form0Actor.{Form0Actor}
use Rattle.tipset_exec.specs.Accounts.{Account, accounts_of}
use Rattle.tipset_exec.specs.Ledger.{ids, id_at, account_at, IsLedger}

abbrev pub account_of : Form0Actor → Account
account_of a = record { nonce = a.nonce; balance = a.balance }

-- the account of the first actor that has the ID
abbrev pub lookup : List Form0Actor → ℕ → Option Account
lookup [] id = None
lookup (a ∷ rest) id = if id == a.id then Some (account_of a) else lookup rest id

-- the IDs rise
abbrev pub Rises : List Form0Actor → Type 0
Rises actors = (i j : ℕ) → i < j → j < length actors → id_at actors i < id_at actors j

pub rises_from : (actors : List Form0Actor) → IsStrictlyIncreasing (ids actors) → Rises actors
rises_from actors up i j lt within = AllPairs-from_increasing (ids actors) up i j 0 lt (omega (arith, length-map actors (λ a. a.id)))

-- so do those of the tail
rises_tail : (a : Form0Actor) (rest : List Form0Actor) → Rises (a ∷ rest) → Rises rest
rises_tail a rest up i j lt within = up (suc i) (suc j) (omega arith) (omega arith)

pub eq_by_nat_cmp : (q k : ℕ) → eq_by_cmp nat_cmp q k ≡ eqb q k
eq_by_nat_cmp q k = grind (arith, nat_tests)

-- the first entry with the ID is that of the first actor
find_is : (actors : List Form0Actor) (id : ℕ) → find nat_cmp id (map (λ (a : Form0Actor). (a.id, account_of a)) actors) ≡ lookup actors id
find_is [] id = refl
find_is (a ∷ rest) id = rw (eq_by_nat_cmp id a.id, find_is rest id) refl

pub get_is : (actors : List Form0Actor) (id : ℕ) → get (accounts_of actors) id ≡ lookup actors id
unfolding accounts_of
get_is actors id = get-from_entries nat_cmp_total (map (λ a. (a.id, account_of a)) actors) id ∙ find_is actors id

-- the look-up at a place, past the list, and after a write
lookup_at : (actors : List Form0Actor) → Rises actors → (i : ℕ) (d : Form0Actor) → i < length actors → lookup actors (id_at actors i) ≡ Some (account_of (get_or actors i d))
lookup_at [] up i d within = absurd (omega arith)
lookup_at (a ∷ rest) up zero d within = grind (arith, nat_tests)
lookup_at (a ∷ rest) up (suc i) d within = grind (arith, nat_tests, up 0 (suc i) (omega arith) within, lookup_at rest (rises_tail a rest up) i d (omega arith))

lookup_none : (actors : List Form0Actor) (id : ℕ) → ((i : ℕ) → i < length actors → id_at actors i ≢ id) → lookup actors id ≡ None
lookup_none [] id other = refl
lookup_none (a ∷ rest) id other = grind (arith, nat_tests, other 0 (omega arith), lookup_none rest id (λ i within. other (suc i) (omega arith)))

pub lookup-set : (actors : List Form0Actor) → Rises actors → (i : ℕ) (a : Form0Actor) (id : ℕ) → i < length actors → a.id ≡ id_at actors i → lookup (set actors i a) id ≡ cond (eqb id a.id) (Some (account_of a)) (lookup actors id)
lookup-set [] up i a id within same = absurd (omega arith)
lookup-set (b ∷ rest) up zero a id within same = grind (arith, nat_tests)
lookup-set (b ∷ rest) up (suc i) a id within same = grind (arith, nat_tests, up 0 (suc i) (omega arith) within, lookup-set rest (rises_tail b rest up) i a id (omega arith) same)

-- what is at a place is what the accounts have at its ID
pub get_at : (actors : List Form0Actor) → Rises actors → (i : ℕ) (d : Form0Actor) → i < length actors → get (accounts_of actors) (id_at actors i) ≡ Some (account_of (get_or actors i d))
get_at actors up i d within = get_is actors (id_at actors i) ∙ lookup_at actors up i d within

-- an ID that no actor has is not listed
pub get_none : (actors : List Form0Actor) (id : ℕ) → ((i : ℕ) → i < length actors → id_at actors i ≢ id) → get (accounts_of actors) id ≡ None
get_none actors id other = get_is actors id ∙ lookup_none actors id other

-- the actor at a place, as the clauses name its parts
pub id_there : (actors : List Form0Actor) (place : ℕ) (d : Form0Actor) → place < length actors → (get_or actors place d).id ≡ id_at actors place
id_there actors place d within = sym (get_or-map (λ (a : Form0Actor). a.id) actors place d 0 within)

pub nonce_there : (actors : List Form0Actor) (place : ℕ) (d : Form0Actor) → IsLedger actors → place < length actors → (get_or actors place d).nonce ≡ (account_at actors place).nonce
nonce_there actors place d ledger within = rw (get_at actors (rises_from actors ledger.order) place d within) refl

pub balance_there : (actors : List Form0Actor) (place : ℕ) (d : Form0Actor) → IsLedger actors → place < length actors → (get_or actors place d).balance ≡ (account_at actors place).balance
balance_there actors place d ledger within = rw (get_at actors (rises_from actors ledger.order) place d within) refl
