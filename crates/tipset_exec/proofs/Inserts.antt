-- What an account that is inserted at a listed ID leaves of the accounts.
use Rattle.std.proofs.Common.{◌≡◌, ℕ, cond, eqb, true, false, Some, IsSome, is_some, unwrap_or, eqb-true, refl, sym, ◌∙◌}
use Rattle.std.specs.FinMap.{get, insert, get-insert}
use Rattle.std.specs.Cmp.{nat_cmp_total}
use Rattle.tipset_exec.specs.Accounts.{Account, Accounts, account}
use Rattle.tipset_exec.proofs.Lookup.{eq_by_nat_cmp, nonce_there}

module _ (s : Accounts) (id : ℕ) (a : Account) (q : ℕ) where
  get_after : get (insert s id a) q ≡ cond (eqb q id) (Some a) (get s q)
  get_after = get-insert nat_cmp_total s id a q ∙ rw (eq_by_nat_cmp q id) refl

  -- it lists no other ID
  pub listed_after_insert : IsSome (get s id) → is_some (get (insert s id a) q) ≡ is_some (get s q)
  listed_after_insert listed =
      rw get_after (elim (eqb q id) as (λ b. eqb q id ≡ b → is_some (cond b (Some a) (get s q)) ≡ is_some (get s q)) [
        | true ↦ λ same. rw (eqb-true q id same) (sym listed)
        | false ↦ λ other. refl
      ] refl)

  -- with the same balance, it keeps all balances
  pub balance_after_insert : a.balance ≡ (account s id).balance → (account (insert s id a) q).balance ≡ (account s q).balance
  balance_after_insert kept =
      rw get_after (elim (eqb q id) as (λ b. eqb q id ≡ b → (unwrap_or (cond b (Some a) (get s q)) (record { nonce = 0; balance = 0 })).balance ≡ (account s q).balance) [
        | true ↦ λ same. rw (eqb-true q id same) kept
        | false ↦ λ other. refl
      ] refl)

-- these, and what nonce is at a place
pub ruleset inserts = (listed_after_insert, balance_after_insert, nonce_there)
