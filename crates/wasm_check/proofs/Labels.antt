-- What the label of a block that is not the innermost asks for.
use Rattle.std.proofs.Common.{◌≡◌, ℕ, zero, suc, ◌-◌, ◌<◌, ◌≤◌, List, ◌∷◌, length, get_or, map, Option, Some, Result, Ok, refl, sym, ap, ◌∙◌, arith}
use Rattle.std.specs.Prelude.{reverse, slice_get, ok_or}
use Rattle.std.specs.Option.{option_map}
use Rattle.std.proofs.lemmas.List.{get_or-reverse, length-reverse}
use Rattle.std.proofs.lemmas.Option.{slice_get-map, slice_get_read}

-- the item at a place in a list that is kept the other way round
read_back : {X : Type 0} (items : List X) (place : ℕ) (x : X) → place < length items → x ≡ get_or items (length items - 1 - place) x
    → slice_get (reverse items) place ≡ Some x
read_back items place x h e =
    let long = length-reverse items in
    slice_get_read (reverse items) (length (reverse items)) place x refl (omega (arith, long, h)) (e ∙ sym (get_or-reverse items place x h))

-- what is known of an item of the outer ones
pub outer_read : {X A E : Type 0} (f : X → A) (fault : E) (all : List X) (current : X) (items : List X) (size last label : ℕ) (x : X) (answer : A)
    → current ∷ reverse items ≡ all → size ≡ length items → last ≡ length items → (label ≡ 0 → ⊥) → label ≤ size
    → x ≡ get_or items (last - label) x → answer ≡ f x
    → ok_or (slice_get (map f all) label) fault ≡ Ok answer
outer_read f fault all current items size last zero x answer view long same some within e given = absurd (some refl)
outer_read {X} {A} {E} f fault all current items size last (suc place) x answer view long same some within e given =
    let below : place < length items = omega (arith, long, within) in
    let at : last - suc place ≡ length items - 1 - place = omega (arith, same) in
    let there : slice_get (reverse items) place ≡ Some x = read_back items place x below (e ∙ ap (λ (n : ℕ). get_or items n x) at) in
    let asked : Option A → Result A E = λ o. ok_or o fault in
    let wanted : A → Result A E = λ a. Ok a in
    ap (λ (blocks : List X). asked (slice_get (map f blocks) (suc place))) (sym view)
    ∙ ap asked (slice_get-map f (reverse items) place)
    ∙ ap (λ (o : Option X). asked (option_map f o)) there
    ∙ ap wanted (sym given)
