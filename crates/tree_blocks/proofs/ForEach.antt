-- What is read of each item of a list.
use Rattle.std.proofs.Common.{◌≡◌, ℕ, zero, suc, ◌+◌, ◌<◌, List, [], ◌∷◌, ◌++◌, length, take, get_or, Some, None, Option, refl, sym, ap, ◌∙◌, arith}
use Rattle.std.proofs.lemmas.List.{take_more}
use Rattle.tree_blocks.specs.Forms.{if_some, for_each}

-- what an answer was made of
pub if_some_gives : {A B : Type 0} (r : Option A) (g : A → Option B) (y : B) → if_some r g ≡ Some y → (x : A) × (r ≡ Some x) × (g x ≡ Some y)
if_some_gives None g y e = cc
if_some_gives (Some x) g y e = (x, refl, e)

none_after : {A : Type 0} (r : Option A) (rs : Option (List A)) → rs ≡ None → if_some r (λ z. if_some rs (λ zs. Some (z ∷ zs))) ≡ None
none_after None rs e = refl
none_after {A = A} (Some z) rs e = ap (λ (q : Option (List A)). if_some q (λ zs. Some (z ∷ zs))) e

-- one that is not read leaves nothing
pub for_each_none : {A B : Type 0} (f : A → Option B) (xs : List A) (i : ℕ) (x : A) → i < length xs → x ≡ get_or xs i x → f x ≡ None → for_each f xs ≡ None
for_each_none f [] i x lt is none = absurd (omega arith)
for_each_none {B = B} f (y ∷ ys) zero x lt is none = ap (λ (r : Option B). if_some r (λ z. if_some (for_each f ys) (λ zs. Some (z ∷ zs)))) (ap f (sym is) ∙ none)
for_each_none f (y ∷ ys) (suc i) x lt is none = none_after (f y) (for_each f ys) (for_each_none f ys i x (omega arith) is none)

-- one more that is read
for_each_push : {A B : Type 0} (f : A → Option B) (xs : List A) (x : A) (y : B) (done : List B) → f x ≡ Some y → for_each f xs ≡ Some done → for_each f (xs ++ x ∷ []) ≡ Some (done ++ y ∷ [])
for_each_push {B = B} f [] x y done read e =
    let nothing : [] ≡ done = cc in
    ap (λ (r : Option B). if_some r (λ z. Some (z ∷ []))) read ∙ ap (λ (ys : List B). Some (ys ++ y ∷ [])) nothing
for_each_push {B = B} f (z ∷ xs) x y done read e =
    let first = if_some_gives (f z) (λ w. if_some (for_each f xs) (λ ws. Some (w ∷ ws))) done e in
    let rest = if_some_gives (for_each f xs) (λ ws. Some (first.0 ∷ ws)) done first.2 in
    let whole : first.0 ∷ rest.0 ≡ done = cc in
    ap (λ (r : Option B). if_some r (λ w. if_some (for_each f (xs ++ x ∷ [])) (λ ws. Some (w ∷ ws)))) first.1
    ∙ ap (λ (r : Option (List B)). if_some r (λ ws. Some (first.0 ∷ ws))) (for_each_push f xs x y rest.0 read rest.1)
    ∙ ap (λ (ys : List B). Some (ys ++ y ∷ [])) whole

pub for_each_more : {A B : Type 0} (f : A → Option B) (xs : List A) (i : ℕ) (x : A) (y : B) (done : List B) → i < length xs → x ≡ get_or xs i x → f x ≡ Some y
    → for_each f (take i xs) ≡ Some done → for_each f (take (i + 1) xs) ≡ Some (done ++ y ∷ [])
for_each_more f xs i x y done lt is read e =
    ap (for_each f) (take_more xs i x lt ∙ ap (λ z. take i xs ++ z ∷ []) (sym is)) ∙ for_each_push f (take i xs) x y done read e
