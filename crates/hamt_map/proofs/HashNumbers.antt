-- Hashes are in order as their numbers are.
use Rattle.std.proofs.Common.{◌≡◌, ℕ, ◌+◌, ◌*◌, ◌<◌, ◌≤◌, false, List, [], ◌∷◌, length, refl, sym, ap, subst, ◌∙◌, arith}
use Rattle.std.proofs.lemmas.Cmp.{by_ranked, ranked}
use Rattle.std.specs.Prelude.{T}
use Rattle.std.specs.Cmp.Lexicographic.{slice_cmp}
use Rattle.std.specs.Int.Digits.{AllBelowBase, number_from_digits, number_from_digits_after}
use Rattle.std.specs.Ordering.{is_lt, nat_cmp, ordering_then}
use Rattle.std.specs.declared.cmp.Ordering.{Ordering}
use Rattle.std.specs.declared.cmp.Ordering.TheVariants.{Less, Equal, Greater}

-- ---- numbers of digits

less_after : (n m : ℕ) (ds es : List ℕ) → length ds ≡ length es → AllBelowBase 256 ds → n < m → number_from_digits_after 256 n ds < number_from_digits_after 256 m es
less_after n m [] [] long below less = less
less_after n m [] (e ∷ es) long below less = absurd (omega (arith, long))
less_after n m (d ∷ ds) [] long below less = absurd (omega (arith, long))
less_after n m (d ∷ ds) (e ∷ es) long below less =
    let digit = below.0 in
    less_after (n * 256 + d) (m * 256 + e) ds es (omega (arith, long)) below.1 (omega (arith, digit, less))

in_order_after : (n : ℕ) (ds es : List ℕ) → length ds ≡ length es → AllBelowBase 256 ds → is_lt (slice_cmp nat_cmp es ds) ≡ false → number_from_digits_after 256 n ds ≤ number_from_digits_after 256 n es
in_order_after n [] [] long below order = omega arith
in_order_after n [] (e ∷ es) long below order = absurd (omega (arith, long))
in_order_after n (d ∷ ds) [] long below order = absurd (omega (arith, long))
in_order_after n (d ∷ ds) (e ∷ es) long below order =
    by_ranked (e < d) (e ≡ d) (d < e) (nat_cmp e d) (ranked e d (nat_cmp e d) refl)
    (λ is less. absurd (subst T (ap (λ o. is_lt (ordering_then o (slice_cmp nat_cmp es ds))) (sym is) ∙ order) tt))
    (λ is same.
    let rest = in_order_after (n * 256 + d) ds es (omega (arith, long)) below.1 (sym (ap (λ o. is_lt (ordering_then o (slice_cmp nat_cmp es ds))) is) ∙ order) in
    subst (λ (k : ℕ). number_from_digits_after 256 (n * 256 + d) ds ≤ number_from_digits_after 256 (n * 256 + k) es) (sym same) rest)
    (λ is less. let digit = below.0 in let more = less_after (n * 256 + d) (n * 256 + e) ds es (omega (arith, long)) below.1 (omega (arith, less)) in omega (arith, more))

pub numbers_in_order : (ds es : List ℕ) → length ds ≡ length es → AllBelowBase 256 ds → is_lt (slice_cmp nat_cmp es ds) ≡ false → number_from_digits 256 ds ≤ number_from_digits 256 es
numbers_in_order ds es = in_order_after 0 ds es

-- what is in order by hashes and then by others is in order by hashes
pub first_in_order : (first rest : Ordering) → is_lt (ordering_then first rest) ≡ false → is_lt first ≡ false
first_in_order Less rest order = order
first_in_order Equal rest order = refl
first_in_order Greater rest order = refl
