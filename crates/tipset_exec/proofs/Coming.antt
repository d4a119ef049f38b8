-- The encodings that came, as a set of them.
use Rattle.std.proofs.Common.{◌≡◌, ℕ, List, [], ◌∷◌, Bool, true, false, ◌||◌, map, Vec, Global, refl, sym, ap, ◌∙◌}
use Rattle.std.specs.Prelude.{bytes_eq}
use Rattle.std.specs.BTreeSet.{insert_key}
use Rattle.std.specs.List.{list_any}
use Rattle.std.specs.Cmp.{alike_right, unsigned_ties}
use Rattle.std.specs.Cmp.Lexicographic.{lists_ties, nat_list_cmp_total, slice_cmp}
use Rattle.std.specs.Ordering.{is_eq, match_ordering, nat_cmp}
use Rattle.std.specs.declared.cmp.Ordering.TheVariants.{Less, Equal, Greater}
use Rattle.tipset_exec.specs.Progress.{HaveCome}

or_twice : (a b : Bool) → (a || b) ≡ (a || (a || b))
or_twice true b = refl
or_twice false b = refl

or_swap : (a b c : Bool) → (a || (b || c)) ≡ (b || (a || c))
or_swap true true c = refl
or_swap true false c = refl
or_swap false b c = refl

-- whether bytes are among the keys, with one more
any_insert : (bytes : List ℕ) (keys : List (Vec ℕ Global)) (k : Vec ℕ Global)
    → list_any (λ d. is_eq (slice_cmp nat_cmp bytes d)) (map (λ a. a.items) (insert_key (λ a b. slice_cmp nat_cmp a.items b.items) keys k))
    ≡ (is_eq (slice_cmp nat_cmp bytes k.items) || list_any (λ d. is_eq (slice_cmp nat_cmp bytes d)) (map (λ a. a.items) keys))
any_insert bytes [] k = refl
any_insert bytes (x ∷ keys) k =
    let rest = any_insert bytes keys k in
    elim (slice_cmp nat_cmp k.items x.items) as (λ o. slice_cmp nat_cmp k.items x.items ≡ o
    → list_any (λ d. is_eq (slice_cmp nat_cmp bytes d)) (map (λ a. a.items) (match_ordering o (k ∷ x ∷ keys) (x ∷ keys) (x ∷ insert_key (λ a b. slice_cmp nat_cmp a.items b.items) keys k)))
    ≡ (is_eq (slice_cmp nat_cmp bytes k.items) || (is_eq (slice_cmp nat_cmp bytes x.items) || list_any (λ d. is_eq (slice_cmp nat_cmp bytes d)) (map (λ a. a.items) keys)))) [
      | Less ↦ λ is. refl
      | Equal ↦ λ is. or_twice (is_eq (slice_cmp nat_cmp bytes x.items)) _
          ∙ ap (λ o. is_eq o || (is_eq (slice_cmp nat_cmp bytes x.items) || list_any (λ d. is_eq (slice_cmp nat_cmp bytes d)) (map (λ a. a.items) keys))) (sym (alike_right nat_list_cmp_total k.items x.items bytes is))
      | Greater ↦ λ is. ap (λ t. is_eq (slice_cmp nat_cmp bytes x.items) || t) rest ∙ or_swap (is_eq (slice_cmp nat_cmp bytes x.items)) (is_eq (slice_cmp nat_cmp bytes k.items)) _
    ] refl

-- whether bytes are among the keys, as the code asks it
any_shown : (bytes : List ℕ) (keys : List (Vec ℕ Global)) → list_any (λ k. is_eq (slice_cmp nat_cmp bytes k.items)) keys ≡ list_any (λ d. is_eq (slice_cmp nat_cmp bytes d)) (map (λ a. a.items) keys)
any_shown bytes [] = refl
any_shown bytes (k ∷ keys) = ap (λ t. is_eq (slice_cmp nat_cmp bytes k.items) || t) (any_shown bytes keys)

pub none_came : HaveCome [] []
none_came = record { same = λ bytes. refl }

pub came_more : (keys after : List (Vec ℕ Global)) (came : List (List ℕ)) (k : Vec ℕ Global) (bytes : List ℕ) → HaveCome (map (λ a. a.items) keys) came → k.items ≡ bytes
    → after ≡ insert_key (λ a b. slice_cmp nat_cmp a.items b.items) keys k → HaveCome (map (λ a. a.items) after) (bytes ∷ came)
came_more keys after came k bytes have is inserted = record {
  same = λ q.
      ap (λ ks. list_any (λ d. is_eq (slice_cmp nat_cmp q d)) (map (λ a. a.items) ks)) inserted ∙ any_insert q keys k
      ∙ (λ i. is_eq (slice_cmp nat_cmp q (is i)) || have.same q i)
      ∙ ap (λ t. t || list_any (bytes_eq q) came) (sym (lists_ties nat_cmp unsigned_ties q bytes));
}

-- the code's test is that of the encodings that came
pub came_test : (keys : List (Vec ℕ Global)) (came : List (List ℕ)) (bytes : List ℕ) (b : Bool) → HaveCome (map (λ a. a.items) keys) came → b ≡ list_any (λ k. is_eq (slice_cmp nat_cmp bytes k.items)) keys
    → list_any (bytes_eq bytes) came ≡ b
came_test keys came bytes b have is = sym (is ∙ any_shown bytes keys ∙ have.same bytes)
