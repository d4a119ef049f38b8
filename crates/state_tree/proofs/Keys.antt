-- Keys and their IDs.
use Rattle.std.proofs.Common.{◌≡◌, ◌≢◌, ℕ, zero, suc, ◌+◌, ◌*◌, ◌/◌, ◌%◌, ◌^◌, ◌<◌, ◌≤◌, List, [], ◌∷◌, ◌++◌, Bool, true, false, cond, ◌&&◌, length, map, reverse, Option, Some, None, inl, inr, ltb, refl, sym, ap, subst, ◌∙◌, append-nil, arith}
use Rattle.std.specs.Prelude.{T, is_some}
use Rattle.std.specs.Int.Digits.{number_from_digits}
use Rattle.std.specs.Str.{bytes_eq}
use Rattle.std.specs.Cmp.Lexicographic.{bytes_decides, nat_list_cmp_total}
use Rattle.std.specs.Cmp.{nat_cmp_total, tied_itself}
use Rattle.std.specs.FinMap as finmap
use Rattle.std.specs.Ordering.{eq_by_cmp, is_eq, nat_cmp}
use Rattle.std.proofs.Math.Dec.{eqb-suc-zero}
use Rattle.std.proofs.lemmas.Bool.{and_parts, cases_Bool, cases_lt}
use Rattle.std.proofs.lemmas.Bool.Decides.{nat_tests}
use Rattle.std.proofs.lemmas.Int.Digits.{number_push}
use Rattle.std.proofs.lemmas.List.{length-append}
use Rattle.std.specs.Option.{SomeIff}
use mathlib.Core.List.{reverse-cons}
use Rattle.fil_base.specs.Varint.{varint}
use Rattle.fil_base.specs.VarintFault.{FoundVarint, IsVarintFault}
use Rattle.fil_base.specs.declared.varint.VarintFault.{VarintFault}
use Rattle.fil_base.proofs.Varints.{fault_spells_none, same_varints, varint-more, varint-small}
use Rattle.hamt_map.specs.Pairs.{key_cmp}
use Rattle.hamt_map.proofs.Held.{key_cmp_same, tied_from}
use Rattle.state_tree.specs.Actors.{id_key}
use Rattle.state_tree.specs.Reading.{id_in, id_of_groups}

-- ---- the number of groups of seven bits

abbrev number_of : List ℕ → ℕ
number_of groups = number_from_digits 128 (reverse (map (λ byte. byte % 128) groups))

number_more : (byte : ℕ) (groups : List ℕ) → number_of (byte ∷ groups) ≡ number_of groups * 128 + byte % 128
number_more byte groups =
    ap (number_from_digits 128) (reverse-cons (byte % 128) (map (λ b. b % 128) groups)) ∙ number_push 128 (reverse (map (λ b. b % 128) groups)) (byte % 128)

number_within : (bound n : ℕ) → n ≤ bound → number_of (varint n) ≡ n
number_within zero n within =
    let none : n ≡ 0 = omega arith in
    ap number_of (varint-small n (omega arith)) ∙ omega arith
number_within (suc bound) n within =
    elim (cases_lt n 128) [
      | inl small ↦ ap number_of (varint-small n small) ∙ omega arith
      | inr great ↦
          let rest = number_within bound (n / 128) (omega arith) in
          ap number_of (varint-more n great) ∙ number_more (128 + n % 128) (varint (n / 128)) ∙ omega (arith, rest)
    ]

-- the number of a spelling
pub number_of-varint : (n : ℕ) → number_of (varint n) ≡ n
number_of-varint n = number_within n n (omega arith)

-- ---- IDs of groups

pub id_of_groups-varint : (groups : List ℕ) (id : ℕ) → id < 2 ^ 63 → groups ≡ varint id → id_of_groups groups ≡ Some id
id_of_groups-varint groups id small is =
    let number : number_of groups ≡ id = ap number_of is ∙ number_of-varint id in
    let fits : ltb id (2 ^ 63) ≡ true = grind (arith, nat_tests) in
    rw (number, fits, (bytes_decides groups (varint id)).1 is) refl

pub groups_of_id : (groups : List ℕ) (id : ℕ) → id_of_groups groups ≡ Some id → (groups ≡ varint id) × (id < 2 ^ 63)
groups_of_id groups id is = by (number_of groups) is where
  by : (n : ℕ) → cond (ltb n (2 ^ 63) && bytes_eq groups (varint n)) (Some n) None ≡ Some id → (groups ≡ varint id) × (id < 2 ^ 63)
  by n same =
      elim (cases_Bool (ltb n (2 ^ 63) && bytes_eq groups (varint n))) [
        | inl passes ↦
            let both = and_parts (ltb n (2 ^ 63)) (bytes_eq groups (varint n)) passes in
            let one : ◌≡◌ {A = Option ℕ} (Some n) (Some id) = sym (ap (λ t. cond t (Some n) None) passes) ∙ same in
            let number : n ≡ id = cc in
            let small : n < 2 ^ 63 = grind (arith, nat_tests, both.0) in
            ((bytes_decides groups (varint n)).0 both.1 ∙ ap varint number, subst (λ k. k < 2 ^ 63) number small)
        | inr fails ↦ let nothing : ◌≡◌ {A = Option ℕ} None (Some id) = sym (ap (λ t. cond t (Some n) None) fails) ∙ same in absurd (cc)
      ]

no_id_by : (groups : List ℕ) (o : Option ℕ) → id_of_groups groups ≡ o → ((id : ℕ) → groups ≡ varint id → id < 2 ^ 63 → ⊥) → None ≡ o
no_id_by groups None is none = refl
no_id_by groups (Some id) is none = let both = groups_of_id groups id is in absurd (none id both.0 both.1)

pub no_id : (groups : List ℕ) → ((id : ℕ) → groups ≡ varint id → id < 2 ^ 63 → ⊥) → None ≡ id_of_groups groups
no_id groups none = no_id_by groups (id_of_groups groups) refl none

pub fault_is_no_id : (groups : List ℕ) (fault : VarintFault) → IsVarintFault groups fault → None ≡ id_of_groups groups
fault_is_no_id groups fault found = no_id groups (λ id is small. fault_spells_none groups fault id [] found small (is ∙ sym (append-nil (varint id))))

pub more_is_no_id : (groups : List ℕ) (n len : ℕ) → FoundVarint groups n len → len ≢ length groups → None ≡ id_of_groups groups
more_is_no_id groups n len found longer = no_id groups (λ id is small.
    let same = same_varints id n [] found.rest (append-nil (varint id) ∙ (sym is ∙ found.spelled)) in
    longer (found.len_is ∙ (ap (λ k. length (varint k)) (sym same.0) ∙ ap length (sym is))))

nothing_left : (rest : List ℕ) (a b : ℕ) → a + length rest ≡ b → a ≡ b → rest ≡ []
nothing_left [] a b sum same = refl
nothing_left (x ∷ rest) a b sum same = absurd (omega arith)

some_of : (o : Option ℕ) (n : ℕ) → SomeIff o (n < 2 ^ 63) n → n < 2 ^ 63 → o ≡ Some n
some_of None n is small = absurd (is small)
some_of (Some x) n is small = ap Some is.1

-- bytes that a number fills are its spelling
pub all_of_it : (groups : List ℕ) (n len : ℕ) (o : Option ℕ) → FoundVarint groups n len → len ≡ length groups → SomeIff o (n < 2 ^ 63) n → o ≡ id_of_groups groups
all_of_it groups n len o found whole is =
    let none_left = nothing_left found.rest (length (varint n)) (length groups) (omega (arith, ap length found.spelled, length-append (varint n) found.rest)) (sym found.len_is ∙ whole) in
    let spelled : groups ≡ varint n = found.spelled ∙ ap (λ (r : List ℕ). varint n ++ r) none_left ∙ append-nil (varint n) in
    some_of o n is found.small ∙ sym (id_of_groups-varint groups n found.small spelled)

-- ---- keys

pub id_of_key : (id : ℕ) → id < 2 ^ 63 → id_in (id_key id) ≡ Some id
id_of_key id small = id_of_groups-varint (varint id) id small refl

pub other_protocol : (protocol : ℕ) (groups : List ℕ) → protocol ≢ 0 → None ≡ id_in (protocol ∷ groups)
other_protocol zero groups other = absurd (other refl)
other_protocol (suc protocol) groups other = rw eqb-suc-zero refl

key_of_id : (key : List ℕ) (id : ℕ) → id_in key ≡ Some id → (key ≡ id_key id) × (id < 2 ^ 63)
key_of_id [] id is = absurd (cc)
key_of_id (zero ∷ groups) id is = let both = groups_of_id groups id is in (ap (λ (gs : List ℕ). 0 ∷ gs) both.0, both.1)
key_of_id (suc protocol ∷ groups) id is = let nothing : ◌≡◌ {A = Option ℕ} None (Some id) = other_protocol (suc protocol) groups (λ zero_is. omega arith) ∙ is in absurd (cc)

pub the_key : (key : List ℕ) (id : ℕ) → id_in key ≡ Some id → key ≡ id_key id
the_key key id is = (key_of_id key id is).0

pub the_id_is_small : (key : List ℕ) (id : ℕ) → id_in key ≡ Some id → id < 2 ^ 63
the_id_is_small key id is = (key_of_id key id is).1

-- ---- which key is whose

same_tests : (s t : Bool) → (s ≡ true → t ≡ true) → (t ≡ true → s ≡ true) → s ≡ t
same_tests true t there back = sym (there refl)
same_tests false true there back = back refl
same_tests false false there back = refl

-- the ID is this one
abbrev pub is_id : ℕ → Option ℕ → Bool
is_id id None = false
is_id id (Some other) = eq_by_cmp nat_cmp other id

tied_numbers : (a b : ℕ) → eq_by_cmp nat_cmp a b ≡ true → a ≡ b
tied_numbers a b tied = finmap.nat_cmp-IsAntisymmetric a b (tied_from (nat_cmp a b) tied)

tied_keys : (a b : List ℕ) → eq_by_cmp key_cmp a b ≡ true → a ≡ b
tied_keys a b tied = key_cmp_same a b (tied_from (key_cmp a b) tied)

-- a key is that of an ID where it is read as this ID
pub key_test : (key : List ℕ) (id : ℕ) (o : Option ℕ) → id < 2 ^ 63 → id_in key ≡ o → eq_by_cmp key_cmp key (id_key id) ≡ is_id id o
key_test key id None small is =
    same_tests (eq_by_cmp key_cmp key (id_key id)) false
    (λ tied. let both : ◌≡◌ {A = Option ℕ} None (Some id) = sym is ∙ ap id_in (tied_keys key (id_key id) tied) ∙ id_of_key id small in absurd (cc))
    (λ never. absurd (cc))
key_test key id (Some other) small is =
    same_tests (eq_by_cmp key_cmp key (id_key id)) (eq_by_cmp nat_cmp other id)
    (λ tied.
    let both : ◌≡◌ {A = Option ℕ} (Some other) (Some id) = sym is ∙ ap id_in (tied_keys key (id_key id) tied) ∙ id_of_key id small in
    let same : other ≡ id = cc in
    ap (λ k. eq_by_cmp nat_cmp k id) same ∙ ap is_eq (tied_itself nat_cmp_total id))
    (λ tied.
    let same : key ≡ id_key id = the_key key other is ∙ ap id_key (tied_numbers other id tied) in
    ap (λ k. eq_by_cmp key_cmp k (id_key id)) same ∙ ap is_eq (tied_itself nat_list_cmp_total (id_key id)))
