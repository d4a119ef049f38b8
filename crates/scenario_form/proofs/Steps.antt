-- Readings one after another, and of each value with its number.
use Rattle.std.proofs.Common.{◌≡◌, ℕ, zero, suc, ◌+◌, ◌<◌, ◌≤◌, List, [], ◌∷◌, ◌++◌, length, get_or, drop, append_assoc, Result, Ok, Err, refl, sym, ap, ◌∙◌, arith}
use Rattle.std.specs.Prelude.{All}
use Rattle.std.proofs.lemmas.List.{append-nil, drop_all, drop_more}
use Rattle.std.proofs.lemmas.List.Elements.{All-cons, All-head, All-nil, All-same, All-tail}
use Rattle.dag_cbor.specs.declared.value.Value.{Value}
use Rattle.fil_message.specs.Readers.{if_read}
use Rattle.fil_message.proofs.ReadSteps.{both_read, ok_same}
use Rattle.scenario_form.specs.Reading.{each_read}

-- ---- two steps, and what follows them

pub two_found : {E A B C : Type 0} (r : Result A E) (f : A → Result B E) (g : B → Result C E) (y : B) → if_read r f ≡ Ok y → if_read r (λ x. if_read (f x) g) ≡ g y
two_found (Ok x) f g y is = ap (λ (s : Result _ _). if_read s g) is
two_found (Err e) f g y is = absurd (let wrong : Err e ≡ Ok y = is in cc)

pub two_fault : {E A B C : Type 0} (r : Result A E) (f : A → Result B E) (g : B → Result C E) (e : E) → if_read r f ≡ Err e → if_read r (λ x. if_read (f x) g) ≡ Err e
two_fault (Ok x) f g e is = ap (λ (s : Result _ _). if_read s g) is
two_fault (Err d) f g e is = (let same : Err d ≡ Err e = is in let inner : d ≡ e = cc in ap Err inner)

-- a fault of one of two steps, of which the second is passed over
pub either_fault : {E A B C : Type 0} (r : Result A E) (f : A → Result B E) (g : A → B → Result C E) (e : E) → if_read r f ≡ Err e → if_read r (λ x. if_read (f x) (g x)) ≡ Err e
either_fault (Ok x) f g e is = ap (λ (s : Result _ _). if_read s (g x)) is
either_fault (Err d) f g e is = (let same : Err d ≡ Err e = is in let inner : d ≡ e = cc in ap Err inner)

-- ---- each value with its number

-- what is read of all, where some are read and the others are left
abbrev pub SoFar : {E A : Type 0} → (ℕ → Value → Result A E) → List Value → ℕ → List A → Type 0
SoFar f values i done = each_read f 0 values ≡ if_read (each_read f i (drop i values)) (λ ys. Ok (done ++ ys))

none_before : {E A : Type 0} (r : Result (List A) E) → r ≡ if_read r (λ ys. Ok ([] ++ ys))
none_before (Ok ys) = refl
none_before (Err e) = refl

pub each_none : {E A : Type 0} (f : ℕ → Value → Result A E) (values : List Value) (done : List A) → done ≡ [] → SoFar f values 0 done
each_none f values done none = none_before (each_read f 0 values) ∙ ap (λ (xs : List _). if_read (each_read f 0 values) (λ ys. Ok (xs ++ ys))) (sym none)

next_value : {E A : Type 0} (f : ℕ → Value → Result A E) (values : List Value) (i : ℕ) (value : Value) (done : List A) → i < length values → value ≡ get_or values i value → SoFar f values i done
    → each_read f 0 values ≡ if_read (each_read f i (value ∷ drop (i + 1) values)) (λ ys. Ok (done ++ ys))
next_value f values i value done within at so_far =
    let next : drop i values ≡ value ∷ drop (i + 1) values = drop_more values i value within ∙ ap (λ (x : Value). x ∷ drop (i + 1) values) (sym at) in
    so_far ∙ ap (λ (xs : List Value). if_read (each_read f i xs) (λ ys. Ok (done ++ ys))) next

two_steps : {E A : Type 0} (done : List A) (y : A) (r : Result (List A) E) → if_read (if_read r (λ ys. Ok (y ∷ ys))) (λ ys. Ok (done ++ ys)) ≡ if_read r (λ ys. Ok ((done ++ (y ∷ [])) ++ ys))
two_steps done y (Ok ys) = ap Ok (sym (append_assoc done (y ∷ []) ys))
two_steps done y (Err e) = refl

pub each_more : {E A : Type 0} (f : ℕ → Value → Result A E) (values : List Value) (i : ℕ) (value : Value) (done more : List A) (y : A) → i < length values → value ≡ get_or values i value → f i value ≡ Ok y
    → SoFar f values i done → more ≡ done ++ (y ∷ []) → SoFar f values (i + 1) more
each_more f values i value done more y within at read so_far pushed =
    next_value f values i value done within at so_far
    ∙ ap (λ (r : Result _ _). if_read (if_read r (λ x. if_read (each_read f (i + 1) (drop (i + 1) values)) (λ ys. Ok (x ∷ ys)))) (λ ys. Ok (done ++ ys))) read
    ∙ two_steps done y (each_read f (i + 1) (drop (i + 1) values))
    ∙ ap (λ (xs : List _). if_read (each_read f (i + 1) (drop (i + 1) values)) (λ ys. Ok (xs ++ ys))) (sym pushed)

pub each_fault : {E A : Type 0} (f : ℕ → Value → Result A E) (values : List Value) (i : ℕ) (value : Value) (done : List A) (e : E) → i < length values → value ≡ get_or values i value → f i value ≡ Err e
    → SoFar f values i done → each_read f 0 values ≡ Err e
each_fault f values i value done e within at refused so_far =
    next_value f values i value done within at so_far
    ∙ ap (λ (r : Result _ _). if_read (if_read r (λ x. if_read (each_read f (i + 1) (drop (i + 1) values)) (λ ys. Ok (x ∷ ys)))) (λ ys. Ok (done ++ ys))) refused

pub each_all : {E A : Type 0} (f : ℕ → Value → Result A E) (values : List Value) (i : ℕ) (done : List A) → length values ≤ i → SoFar f values i done → each_read f 0 values ≡ Ok done
each_all f values i done over so_far =
    so_far ∙ ap (λ (xs : List Value). if_read (each_read f i xs) (λ ys. Ok (done ++ ys))) (drop_all i values over) ∙ ap Ok (append-nil done)

-- ---- what is known of all that was read

pub each_length : {E A : Type 0} (f : ℕ → Value → Result A E) (n : ℕ) (values : List Value) (xs : List A) → each_read f n values ≡ Ok xs → length xs ≡ length values
each_length f n [] xs is = ap length (ok_same _ xs [] is refl)
each_length f n (value ∷ values) xs is =
    let first = both_read (f n value) _ xs is in
    let rest = both_read (each_read f (n + 1) values) _ xs first.2 in
    omega (arith, ap length (ok_same _ xs (first.0 ∷ rest.0) rest.2 refl), each_length f (n + 1) values rest.0 rest.1)

pub each_holds : {E A : Type 0} (Q : Value → Type 0) (P : A → Type 0) (f : ℕ → Value → Result A E) → ((n : ℕ) (value : Value) (x : A) → Q value → f n value ≡ Ok x → P x)
    → (n : ℕ) (values : List Value) (xs : List A) → All Q values → each_read f n values ≡ Ok xs → All P xs
each_holds Q P f holds n [] xs all is = All-same P xs [] (ok_same _ xs [] is refl) (All-nil P)
each_holds Q P f holds n (value ∷ values) xs all is =
    let first = both_read (f n value) _ xs is in
    let rest = both_read (each_read f (n + 1) values) _ xs first.2 in
    All-same P xs (first.0 ∷ rest.0) (ok_same _ xs (first.0 ∷ rest.0) rest.2 refl)
    (All-cons P first.0 rest.0 (holds n value first.0 (All-head Q value values all) first.1) (each_holds Q P f holds (n + 1) values rest.0 (All-tail Q value values all) rest.1))

-- what is read of the value at a place
pub each_at : {E A : Type 0} (f : ℕ → Value → Result A E) (n m : ℕ) (values : List Value) (xs : List A) (i : ℕ) (v : Value) (x : A) → m ≡ n + i → i < length values → each_read f n values ≡ Ok xs
    → f m (get_or values i v) ≡ Ok (get_or xs i x)
each_at f n m [] xs i v x place within is = absurd (omega arith)
each_at f n m (value ∷ values) xs zero v x place within is =
    let first = both_read (f n value) _ xs is in
    let rest = both_read (each_read f (n + 1) values) _ xs first.2 in
    let same : m ≡ n = omega (arith, place) in
    ap (λ (k : ℕ). f k value) same ∙ first.1 ∙ ap (λ (ys : List _). Ok (get_or ys 0 x)) (ok_same _ (first.0 ∷ rest.0) xs refl rest.2)
each_at f n m (value ∷ values) xs (suc i) v x place within is =
    let first = both_read (f n value) _ xs is in
    let rest = both_read (each_read f (n + 1) values) _ xs first.2 in
    each_at f (n + 1) m values rest.0 i v x (omega (arith, place)) (omega (arith, within)) rest.1
    ∙ ap (λ (ys : List _). Ok (get_or ys (suc i) x)) (ok_same _ (first.0 ∷ rest.0) xs refl rest.2)
