-- When an address can be given the next ID.
use Rattle.std.proofs.Common.{◌≡◌, ◌≢◌, ◌<◌, ◌-◌, ◌^◌, ℕ, Bool, true, false, List, [], ◌∷◌, Option, Some, None, map, nat_eq, refl, sym, ap, subst, ◌∙◌, arith}
use Rattle.std.specs.Prelude.{◌==◌, bytes_eq, is_some}
use Rattle.std.proofs.lemmas.Bool.{eqb-false}
use Rattle.std.specs.FinMap.{get}
use Rattle.std.specs.List.{IsDistinct}
use Rattle.fil_address.specs.AddressBytes.{address}
use Rattle.fil_address.specs.declared.address.Address.{Address}
use Rattle.fil_address.specs.declared.address.Address.TheVariants.{Id, Secp, Made, Bls}
use Rattle.init_names.specs.Names.{InitState, IsInitState, Names, no_id}
use Rattle.init_names.specs.Resolving.{resolved}

-- nothing was found
none_found : (found : Option ℕ) (some : Bool) → some ≡ is_some found → some ≡ false → found ≡ None
none_found None some is not_some = refl
none_found (Some id) some is not_some = absurd (true≢false (sym is ∙ not_some)) where
  true≢false : true ≡ false → ⊥
  true≢false e = cc

-- an address that is no ID and names nothing has no entry
no_entry : (names : Names) (a : Address) → no_id a ≡ true → resolved names a ≡ None → get names (address a) ≡ None
no_entry names (Id id) no_address none = absurd (false≢true no_address) where
  false≢true : false ≡ true → ⊥
  false≢true e = cc
no_entry names (Secp hash) no_address none = none
no_entry names (Made hash) no_address none = none
no_entry names (Bls key) no_address none = none

below_last : (n : ℕ) → n < 2 ^ 63 → (n == 2 ^ 63 - 1) ≡ false → n < 2 ^ 63 - 1
below_last n small other =
    let apart : n ≢ 2 ^ 63 - 1 = eqb-false n (2 ^ 63 - 1) other in
    omega (arith, small, apart)

-- there is a next ID, and the address is free
pub free_to_assign : (s : InitState) (a : Address) (full some : Bool) (found : Option ℕ) → s.next < 2 ^ 63 → full ≡ (s.next == 2 ^ 63 - 1) → full ≡ false → no_id a ≡ true
    → found ≡ resolved s.names a → some ≡ is_some found → some ≡ false → (s.next < 2 ^ 63 - 1) × (get s.names (address a) ≡ None)
free_to_assign s a full some found below is not_full no_address is_found is_test no_test =
    (below_last s.next below (sym is ∙ not_full), no_entry s.names a no_address (sym is_found ∙ none_found found some is_test no_test))
