-- What a write of an actor at its place does to the list.
use Rattle.std.proofs.Common.{◌≡◌, ℕ, ◌+◌, ◌<◌, ◌≤◌, List, length, get_or, set, refl, sym, ap, subst, ◌∙◌, arith}
use Rattle.std.specs.FinMap.{insert, same_map, nat_cmp-IsAntisymmetric, get-insert}
use Rattle.std.specs.Cmp.{nat_cmp_total}
use Rattle.std.specs.List.Sorted.{IsStrictlyIncreasing}
use Rattle.std.proofs.lemmas.List.{map-set, set-get_or}
use Rattle.std.proofs.lemmas.List.Sums.{sum-map, sum_by-set, get_or-le-sum_by}
use Rattle.fil_base.specs.declared.token.TheConstants.{GREATEST_AMOUNT}
use Rattle.fil_message.specs.declared.form0.Form0Actor.{Form0Actor}
use Rattle.tipset_exec.specs.Accounts.{accounts_of}
use Rattle.tipset_exec.specs.Ledger.{ids, total, id_at, IsLedger}
use Rattle.tipset_exec.proofs.Lookup.{account_of, rises_from, eq_by_nat_cmp, get_is, lookup-set, id_there, nonce_there, balance_there}

-- its account is inserted
pub accounts_of-set : (actors : List Form0Actor) (place : ℕ) (a : Form0Actor) → IsLedger actors → place < length actors → a.id ≡ id_at actors place → accounts_of (set actors place a) ≡ insert (accounts_of actors) a.id (account_of a)
accounts_of-set actors place a ledger within same =
    same_map nat_cmp_total nat_cmp-IsAntisymmetric _ _ (λ q.
    get_is (set actors place a) q ∙ lookup-set actors (rises_from actors ledger.order) place a q within same
    ∙ sym (get-insert nat_cmp_total (accounts_of actors) a.id (account_of a) q ∙ rw (eq_by_nat_cmp q a.id, get_is actors q) refl))

pub ids-set : (actors : List Form0Actor) (place : ℕ) (a : Form0Actor) → a.id ≡ id_at actors place → ids (set actors place a) ≡ ids actors
ids-set actors place a same = map-set (λ b. b.id) actors place a ∙ ap (set (ids actors) place) same ∙ set-get_or (ids actors) place 0

pub total-set : (actors : List Form0Actor) (place : ℕ) (a d : Form0Actor) → place < length actors → total (set actors place a) + (get_or actors place d).balance ≡ total actors + a.balance
total-set actors place a d within =
    rw (sum-map (λ (b : Form0Actor). b.balance) (set actors place a), sum-map (λ (b : Form0Actor). b.balance) actors) (sum_by-set (λ b. b.balance) actors place a d within)

pub balance-le-total : (actors : List Form0Actor) (place : ℕ) (d : Form0Actor) → place < length actors → (get_or actors place d).balance ≤ total actors
balance-le-total actors place d within = rw (sum-map (λ (b : Form0Actor). b.balance) actors) (get_or-le-sum_by (λ b. b.balance) actors place d within)

pub IsLedger-set : (actors : List Form0Actor) (place : ℕ) (a d : Form0Actor) → IsLedger actors → place < length actors → a.id ≡ id_at actors place → total actors + a.balance ≤ GREATEST_AMOUNT + (get_or actors place d).balance → IsLedger (set actors place a)
IsLedger-set actors place a d ledger within same fits = record {
  order = subst IsStrictlyIncreasing (sym (ids-set actors place a same)) ledger.order;
  bound = omega (arith, total-set actors place a d within);
}

-- these, and what is at the place before the write
pub ruleset writes = (accounts_of-set, ids-set, total-set, balance-le-total, IsLedger-set, id_there, nonce_there, balance_there)
