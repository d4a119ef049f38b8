-- Readings one after another.
use Rattle.std.proofs.Common.{◌≡◌, ℕ, ◌+◌, ◌<◌, ◌≤◌, List, [], ◌∷◌, ◌++◌, length, get_or, drop, append_assoc, Option, Some, None, Result, Ok, Err, IfErr, IsErrAnd, refl, sym, ap, ◌∙◌, arith}
use Rattle.std.specs.Prelude.{slice_get}
use Rattle.std.proofs.lemmas.List.{append-nil, drop_all, drop_more}
use Rattle.fil_base.specs.Failure.{IfFault}
use Rattle.fil_base.specs.declared.failure.Failure.{Failure}
use Rattle.fil_base.specs.declared.failure.Failure.TheVariants.{NoMemory, Fault}
use Rattle.dag_cbor.specs.declared.value.Value.{Value}
use Rattle.cbor_fields.specs.Fields.{field, item_read, placed}
use Rattle.cbor_fields.specs.declared.field_fault.FieldFault.{FieldFault}
use Rattle.cbor_fields.specs.declared.field_fault.FieldKind.{FieldKind}
use Rattle.fil_message.specs.Form0Reading.{in_form}
use Rattle.fil_message.specs.Readers.{all_read, if_read}
use Rattle.fil_message.specs.declared.form_fault.FormFault.{FormFault}
use Rattle.fil_message.specs.declared.form_fault.FormFault.TheVariants.{Field}

pub then_read : {E A B : Type 0} (r : Result A E) (f : A → Result B E) (x : A) (whole : Result B E) → r ≡ Ok x → f x ≡ whole → if_read r f ≡ whole
then_read r f x whole is rest = ap (λ (s : Result _ _). if_read s f) is ∙ rest

pub then_fault : {E A B : Type 0} (r : Result A E) (f : A → Result B E) (e : E) → r ≡ Err e → if_read r f ≡ Err e
then_fault r f e is = ap (λ (s : Result _ _). if_read s f) is

pub ok_same : {E A : Type 0} (r : Result A E) (x y : A) → r ≡ Ok x → r ≡ Ok y → x ≡ y
ok_same r x y one other = (let same : Ok x ≡ Ok y = sym one ∙ other in cc)

-- what was read first, and what after it
pub both_read : {E A B : Type 0} (r : Result A E) (f : A → Result B E) (y : B) → if_read r f ≡ Ok y → (x : A) × (r ≡ Ok x) × (f x ≡ Ok y)
both_read (Ok x) f y is = (x, refl, is)
both_read (Err e) f y is = absurd (cc)

-- a field of what is read of another
item_then : {A B : Type 0} (read : Value → Result A FieldKind) (f : A → Result B FieldKind) (at : ℕ) (o : Option Value)
    → placed at (item_read (λ x. if_read (read x) f) o) ≡ if_read (placed at (item_read read o)) (λ a. placed at (f a))
item_then read f at None = refl
item_then read f at (Some value) = by (read value) where
  by : (r : Result _ FieldKind) → placed at (if_read r f) ≡ if_read (placed at r) (λ a. placed at (f a))
  by (Ok a) = refl
  by (Err kind) = refl

pub field_then : {A B : Type 0} (read : Value → Result A FieldKind) (f : A → Result B FieldKind) (items : List Value) (at : ℕ)
    → field (λ x. if_read (read x) f) items at ≡ if_read (field read items at) (λ a. placed at (f a))
field_then read f items at = item_then read f at (slice_get items at)

-- the same, where the fault of a field is one of an account list
pub in_first : {A B : Type 0} (r : Result A FieldFault) (f : A → Result B FieldFault) (e : FormFault) → in_form r ≡ Err e → in_form (if_read r f) ≡ Err e
in_first (Ok x) f e is = absurd (let wrong : Ok x ≡ Err e = is in cc)
in_first (Err fault) f e is = (let same : Err (Field fault) ≡ Err e = is in ap Err (let inner : Field fault ≡ e = cc in inner))

pub in_then : {A B : Type 0} (r : Result A FieldFault) (f : A → Result B FieldFault) (x : A) (e : FormFault) → r ≡ Ok x → in_form (f x) ≡ Err e → in_form (if_read r f) ≡ Err e
in_then r f x e is rest = ap (λ (s : Result _ FieldFault). in_form (if_read s f)) is ∙ rest

-- two fields that are read together
pub in_first_two : {A B C : Type 0} (r : Result A FieldFault) (s : Result B FieldFault) (f : A → B → Result C FieldFault) (e : FormFault) → in_form (if_read r (λ _. s)) ≡ Err e → in_form (if_read r (λ x. if_read s (f x))) ≡ Err e
in_first_two (Ok x) s f e is = in_first s (f x) e is
in_first_two (Err fault) s f e is = (let same : Err (Field fault) ≡ Err e = is in ap Err (let inner : Field fault ≡ e = cc in inner))

pub in_form_ok : {A : Type 0} (r : Result A FieldFault) (x : A) → Ok x ≡ in_form r → r ≡ Ok x
in_form_ok (Ok y) x is = (let same : x ≡ y = cc in ap Ok (sym same))
in_form_ok (Err fault) x is = absurd (let wrong : Ok x ≡ Err (Field fault) = is in cc)

-- ---- exits with a fault

pub err_exit : {T A E : Type 0} (r : Result T E) (read : Result A E) (fault : E) → IsErrAnd r (λ e. e ≡ fault) → read ≡ Err fault → IfErr r (λ e. read ≡ Err e)
err_exit (Ok x) read fault same is = tt
err_exit (Err e) read fault same is = is ∙ ap Err (sym same)

pub form_exit : {A : Type 0} (r : Result A FormFault) (read : Result A FieldFault) (fault : FieldFault) → IsErrAnd r (λ e. e ≡ Field fault) → read ≡ Err fault → r ≡ in_form read
form_exit (Ok x) read fault same is = absurd same
form_exit (Err e) read fault same is = ap Err same ∙ sym (ap in_form is)

-- where another thing was to be read
pub other_exit : {T A : Type 0} (r : Result T FormFault) (read : Result A FieldFault) (fault : FieldFault) → IsErrAnd r (λ e. e ≡ Field fault) → read ≡ Err fault → IfErr r (λ e. in_form read ≡ Err e)
other_exit (Ok x) read fault same is = tt
other_exit (Err e) read fault same is = ap in_form is ∙ ap Err (sym same)

-- where memory may also run out
pub memory_exit : {T A : Type 0} (r : Result T (Failure FormFault)) (read : Result A FormFault) (fault : FormFault) → IsErrAnd r (λ failure. failure ≡ Fault fault) → read ≡ Err fault
    → IfErr r (λ failure. IfFault failure (λ e. read ≡ Err e))
memory_exit (Ok x) read fault same is = tt
memory_exit (Err NoMemory) read fault same is = tt
memory_exit (Err (Fault e)) read fault same is = (let inner : e ≡ fault = cc same in is ∙ ap Err (sym inner))

pub part_exit : {T A B : Type 0} (part : Failure FormFault) (r : Result T (Failure FormFault)) (read : Result A FormFault) (whole : Result B FormFault) → IsErrAnd r (λ failure. failure ≡ part)
    → IfFault part (λ e. read ≡ Err e) → ((e : FormFault) → read ≡ Err e → whole ≡ Err e) → IfErr r (λ failure. IfFault failure (λ e. whole ≡ Err e))
part_exit NoMemory (Ok x) read whole same is so = tt
part_exit (Fault fault) (Ok x) read whole same is so = tt
part_exit NoMemory (Err NoMemory) read whole same is so = tt
part_exit (Fault fault) (Err NoMemory) read whole same is so = tt
part_exit NoMemory (Err (Fault e)) read whole same is so = absurd (let wrong : Fault e ≡ NoMemory = same in cc)
part_exit (Fault fault) (Err (Fault e)) read whole same is so = (let inner : e ≡ fault = cc same in so fault is ∙ ap Err (sym inner))

-- ---- reading each item

-- what is read of all, where some are read and the others are left
abbrev pub SoFar : {A : Type 0} → (Value → Result A FieldFault) → List Value → ℕ → List A → Type 0
SoFar f items i done = all_read f items ≡ if_read (all_read f (drop i items)) (λ ys. Ok (done ++ ys))

none_before : {E A : Type 0} (r : Result (List A) E) → r ≡ if_read r (λ ys. Ok ([] ++ ys))
none_before (Ok ys) = refl
none_before (Err e) = refl

pub all_none : {A : Type 0} (f : Value → Result A FieldFault) (items : List Value) (done : List A) → done ≡ [] → SoFar f items 0 done
all_none f items done none = none_before (all_read f items) ∙ ap (λ (xs : List _). if_read (all_read f items) (λ ys. Ok (xs ++ ys))) (sym none)

next_item : {A : Type 0} (f : Value → Result A FieldFault) (items : List Value) (i : ℕ) (item : Value) (done : List A) → i < length items → item ≡ get_or items i item → SoFar f items i done
    → all_read f items ≡ if_read (all_read f (item ∷ drop (i + 1) items)) (λ ys. Ok (done ++ ys))
next_item f items i item done within at so_far =
    let next : drop i items ≡ item ∷ drop (i + 1) items = drop_more items i item within ∙ ap (λ (x : Value). x ∷ drop (i + 1) items) (sym at) in
    so_far ∙ ap (λ (xs : List Value). if_read (all_read f xs) (λ ys. Ok (done ++ ys))) next

two_steps : {E A : Type 0} (done : List A) (y : A) (r : Result (List A) E) → if_read (if_read r (λ ys. Ok (y ∷ ys))) (λ ys. Ok (done ++ ys)) ≡ if_read r (λ ys. Ok ((done ++ (y ∷ [])) ++ ys))
two_steps done y (Ok ys) = ap Ok (sym (append_assoc done (y ∷ []) ys))
two_steps done y (Err e) = refl

pub item_more : {A : Type 0} (f : Value → Result A FieldFault) (items : List Value) (i : ℕ) (item : Value) (done more : List A) (y : A) → i < length items → item ≡ get_or items i item → f item ≡ Ok y
    → SoFar f items i done → more ≡ done ++ (y ∷ []) → SoFar f items (i + 1) more
item_more f items i item done more y within at read so_far pushed =
    next_item f items i item done within at so_far
    ∙ ap (λ (r : Result _ FieldFault). if_read (if_read r (λ x. if_read (all_read f (drop (i + 1) items)) (λ ys. Ok (x ∷ ys)))) (λ ys. Ok (done ++ ys))) read
    ∙ two_steps done y (all_read f (drop (i + 1) items))
    ∙ ap (λ (xs : List _). if_read (all_read f (drop (i + 1) items)) (λ ys. Ok (xs ++ ys))) (sym pushed)

pub item_fault : {A : Type 0} (f : Value → Result A FieldFault) (items : List Value) (i : ℕ) (item : Value) (done : List A) (e : FormFault) → i < length items → item ≡ get_or items i item
    → in_form (f item) ≡ Err e → SoFar f items i done → in_form (all_read f items) ≡ Err e
item_fault f items i item done e within at refused so_far =
    ap in_form (next_item f items i item done within at so_far)
    ∙ in_first (all_read f (item ∷ drop (i + 1) items)) (λ ys. Ok (done ++ ys)) e (in_first (f item) (λ x. if_read (all_read f (drop (i + 1) items)) (λ ys. Ok (x ∷ ys))) e refused)

pub item_all : {A : Type 0} (f : Value → Result A FieldFault) (items : List Value) (i : ℕ) (done : List A) → length items ≤ i → SoFar f items i done → all_read f items ≡ Ok done
item_all f items i done over so_far =
    so_far ∙ ap (λ (xs : List Value). if_read (all_read f xs) (λ ys. Ok (done ++ ys))) (drop_all i items over) ∙ ap Ok (append-nil done)
