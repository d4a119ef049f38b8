-- One more part of a text.
use Rattle.std.proofs.Common.{◌≡◌, ℕ, ◌+◌, ◌<◌, List, [], ◌∷◌, ◌++◌, length, get_or, take, add-zero, append_assoc, length-take, refl, sym, ap, ◌∙◌, arith}
use Rattle.std.specs.List.{flat_map, enumerate_from}
use Rattle.std.proofs.lemmas.List.{take_more, flat_map_more}

enumerate_push : {A : Type 0} (n : ℕ) (xs : List A) (x : A) → enumerate_from n (xs ++ x ∷ []) ≡ enumerate_from n xs ++ (n + length xs, x) ∷ []
enumerate_push n [] x = rw add-zero refl
enumerate_push n (y ∷ xs) x =
    let next : (n + 1) + length xs ≡ n + length (y ∷ xs) = omega arith in
    ap (λ rest. (n, y) ∷ rest) (enumerate_push (n + 1) xs x ∙ ap (λ k. enumerate_from (n + 1) xs ++ (k, x) ∷ []) next)

-- the parts of one thing more
pub one_more : {A : Type 0} (part : ℕ × A → List ℕ) (xs : List A) (x : A) → flat_map part (enumerate_from 0 (xs ++ x ∷ [])) ≡ flat_map part (enumerate_from 0 xs) ++ part (length xs, x)
one_more part xs x =
    let place : 0 + length xs ≡ length xs = omega arith in
    ap (flat_map part) (enumerate_push 0 xs x ∙ ap (λ k. enumerate_from 0 xs ++ (k, x) ∷ []) place) ∙ sym (flat_map_more part [] (enumerate_from 0 xs) (length xs, x))

-- the parts of the things up to this one
parts_more : {A : Type 0} (part : ℕ × A → List ℕ) (xs : List A) (i : ℕ) (d : A) → i < length xs → flat_map part (enumerate_from 0 (take (i + 1) xs)) ≡ flat_map part (enumerate_from 0 (take i xs)) ++ part (i, get_or xs i d)
parts_more part xs i d within =
    let place : length (take i xs) ≡ i = omega (arith, length-take i xs) in
    ap (λ ys. flat_map part (enumerate_from 0 ys)) (take_more xs i d within)
    ∙ (one_more part (take i xs) (get_or xs i d) ∙ ap (λ k. flat_map part (enumerate_from 0 (take i xs)) ++ part (k, get_or xs i d)) place)

-- a loop's step: the part of the thing at i is put to the text
pub part_put : {A : Type 0} (part : ℕ × A → List ℕ) (old text new : List ℕ) (xs : List A) (i : ℕ) (x : A) → i < length xs → x ≡ get_or xs i x → text ≡ old ++ flat_map part (enumerate_from 0 (take i xs)) → new ≡ text ++ part (i, x) → new ≡ old ++ flat_map part (enumerate_from 0 (take (i + 1) xs))
part_put part old text new xs i x within at before put =
    let here : part (i, x) ≡ part (i, get_or xs i x) = ap (λ y. part (i, y)) at in
    put ∙ ((λ k. before k ++ here k) ∙ (append_assoc old (flat_map part (enumerate_from 0 (take i xs))) (part (i, get_or xs i x)) ∙ ap (λ parts. old ++ parts) (sym (parts_more part xs i x within))))
