-- What a binary search by ID finds.
use Rattle.std.proofs.Common.{◌≡◌, ℕ, ◌<◌, ◌≤◌, List, length, get_or, MatchOption, IsNone, is_some, Result, Ok, Err, nat_cmp, refl, sym, ap, ◌∙◌, arith}
use Rattle.std.specs.Result.{result_ok}
use Rattle.std.specs.List.Sorted.{IsSearchInRange, IsBinarySearchResult, IsNonDecreasingBy}
use Rattle.std.specs.Ordering.{ordering_index}
use Rattle.std.specs.FinMap.{get}
use Rattle.std.proofs.lemmas.Cmp.{ranked}
use Rattle.std.proofs.lemmas.Bool.Decides.{nat_tests}
use Rattle.std.proofs.lemmas.List.Sorted.{IsNonDecreasingBy-from_default}
use Rattle.fil_message.specs.declared.form0.Form0Actor.{Form0Actor}
use Rattle.tipset_exec.specs.Accounts.{accounts_of}
use Rattle.tipset_exec.specs.Ledger.{id_at, IsLedger, IsPlaceOf}
use Rattle.tipset_exec.proofs.Lookup.{Rises, rises_from, get_at, get_none, id_there}

-- what a list has past its end
nobody : Form0Actor
nobody = record { id = 0; nonce = 0; balance = 0 }

-- the comparisons with an ID rise along the list, as a binary search asks
comparisons_rise : (actors : List Form0Actor) → Rises actors → (id : ℕ) → IsNonDecreasingBy (λ a. ordering_index (nat_cmp a.id id)) actors
comparisons_rise actors up id = IsNonDecreasingBy-from_default (λ a. ordering_index (nat_cmp a.id id)) actors nobody (λ i j le within.
    let ids_rise : (get_or actors i nobody).id ≤ (get_or actors j nobody).id = grind (arith, up i j, id_there actors i nobody, id_there actors j nobody, λ (same : i ≡ j). ap (λ k. (get_or actors k nobody).id) same) in
    grind (arith, nat_tests))

missed : (actors : List Form0Actor) (id at i : ℕ) → i < length actors → (i < at → (get_or actors i nobody).id < id) → (at ≤ i → id < (get_or actors i nobody).id) → id_at actors i ≡ id → ⊥
missed actors id at i within below above same = grind (arith, id_there actors i nobody within)

pub placed : (actors : List Form0Actor) → IsLedger actors → (id : ℕ) (r : Result ℕ ℕ) → IsSearchInRange r (length actors) → IsBinarySearchResult (λ a. nat_cmp a.id id) actors r → MatchOption (result_ok r) (IsNone (get (accounts_of actors) id)) (IsPlaceOf actors id)
placed actors ledger id (Ok at) within equal =
    let there : id_at actors at ≡ id = sym (id_there actors at nobody within) ∙ ranked _ id _ (sym (equal nobody)) in
    record { within = within; there = there; listed = rw (← there, get_at actors (rises_from actors ledger.order) at nobody within) refl }
placed actors ledger id (Err at) within parted =
    let up = rises_from actors ledger.order in
    let point = parted (comparisons_rise actors up id) in
    ap is_some (get_none actors id (λ i there. missed actors id at i there
    (λ below. ranked _ id _ (sym (point.0 i nobody (omega arith) below)))
    (λ above. ranked _ id _ (sym (point.1 i nobody above there)))))
