-- What the readers of a header owe where they meet a fault.
use Rattle.std.proofs.Common.{◌≡◌, List, ℕ, Option, Some, None, Result, Ok, Err, IfErr, IfNone, IsErrAnd, is_ok, is_some, inl, sym, subst, ◌∙◌}
use Rattle.std.proofs.lemmas.Bool.{false≢true}
use Rattle.std.proofs.lemmas.Result.{err_from_is_err_and}
use Rattle.std.specs.List.{IsAmong}
use Rattle.fil_base.specs.CidParts.{CidParts, IsCid}
use Rattle.fil_base.specs.Failure.{IfFault}
use Rattle.fil_base.specs.declared.failure.Failure.{Failure}
use Rattle.fil_base.specs.declared.failure.Failure.TheVariants.{NoMemory, Fault}
use Rattle.dag_cbor.specs.declared.value.Value.{Value}
use Rattle.dag_cbor.specs.declared.value.Value.TheVariants as v
use Rattle.dag_cbor.specs.Plain.{IsPlain}
use Rattle.dag_cbor.specs.Spelling.{spelled}
use Rattle.car_file.specs.Car.{header_of, roots, version}
use Rattle.car_file.specs.CarFault.{IsHeaderFault, IsMap, IsVersion1, Pairs}
use Rattle.car_file.specs.declared.fault.CarKind.{CarKind}
use Rattle.car_file.specs.declared.fault.CarKind.TheVariants.{Header, Roots}
use Rattle.car_file.proofs.Headers.{one_item_of, one_map, one_value, root_found, roots_item}
use Rattle.car_file.proofs.Pairs.{HasOnlyBoth}

-- bytes that spell a value other than a map spell none
pub no_map : {T : Type 0} (content : List ℕ) (value : Value) (found : Option Pairs) (r : Result T (Failure CarKind)) → IsPlain 128 value × (content ≡ spelled value)
    → IfNone found ((pairs : Pairs) → value ≡ v.Map pairs → ⊥) → is_ok r ≡ is_some found → IfErr r (λ failure. IfFault failure (λ _. (pairs : Pairs) → IsMap content pairs → ⊥))
no_map content value found (Ok x) spells none variant = tt
no_map content value found (Err NoMemory) spells none variant = tt
no_map content value (Some pairs) (Err (Fault kind)) spells none variant = absurd (false≢true variant)
no_map content value None (Err (Fault kind)) spells none variant =
    λ pairs m. none pairs (one_value value (v.Map pairs) spells.0 m.0 (sym spells.1 ∙ m.1))

-- a map without the key `version`
pub no_version : (pairs : Pairs) → ((item : Value) → IsAmong pairs (version, item) → ⊥) → (content : List ℕ) → IsMap content pairs → IsHeaderFault content Header
no_version pairs none content m =
    inl (λ others item n has. none item (subst (λ all. IsAmong all (version, item)) (one_map content others pairs n m) has))

-- there are no items under `roots`
pub no_list : {T : Type 0} (pairs : Pairs) (found : Option T) → ((item : Value) → IsAmong pairs (roots, item) → ⊥)
    → IfNone found ((content : List ℕ) (root : CidParts) → IsMap content pairs → IsAmong pairs (roots, roots_item root) → ⊥)
no_list pairs (Some x) none = tt
no_list pairs None none = λ content root m has. none (roots_item root) has

-- what is under `roots` is no list of just a link
pub no_link : {T : Type 0} (pairs : Pairs) (list : Value) (found : Option T) → IsAmong pairs (roots, list) → IfNone found ((root : CidParts) → list ≡ roots_item root → ⊥)
    → IfNone found ((content : List ℕ) (root : CidParts) → IsMap content pairs → IsAmong pairs (roots, roots_item root) → ⊥)
no_link pairs list (Some x) has_list none = tt
no_link pairs list None has_list none =
    λ content root m has. none root (one_item_of content pairs pairs roots list (roots_item root) m m has_list has)

-- the fault of the keys is the header's
pub keys_fault : {T : Type 0} (content : List ℕ) (pairs slice : Pairs) (kind : CarKind) (r : Result T (Failure CarKind)) → IsMap content pairs → slice ≡ pairs
    → ((all : List ℕ) → IsMap all slice → IsHeaderFault all kind) → IsErrAnd r (λ failure. failure ≡ Fault kind) → IfErr r (λ failure. IfFault failure (IsHeaderFault content))
keys_fault content pairs slice kind r m same fault failed =
    let back = err_from_is_err_and r failed in
    rw (back.1, back.2) (fault content (subst (IsMap content) (sym same) m))

abbrev NoRoot : Pairs → Type 0
NoRoot pairs = (content : List ℕ) (root : CidParts) → IsMap content pairs → IsAmong pairs (roots, roots_item root) → ⊥

-- no list of just a link is under `roots`
pub roots_fault : (content : List ℕ) (pairs slice again : Pairs) → IsMap content pairs → slice ≡ pairs → again ≡ pairs → IsVersion1 slice → HasOnlyBoth slice
    → ((all : List ℕ) (root : CidParts) → IsMap all again → IsAmong again (roots, roots_item root) → ⊥) → IsHeaderFault content Roots
roots_fault content pairs slice again m same same_again first only none =
    (pairs, m, subst IsVersion1 same first, subst HasOnlyBoth same only, λ root has. (subst NoRoot same_again none) content root m has)

-- the header of the root that was found
pub header_found : (content : List ℕ) (pairs slice again : Pairs) (root copy : CidParts) → IsMap content pairs → slice ≡ pairs → again ≡ pairs → IsVersion1 slice → HasOnlyBoth slice
    → IsAmong again (roots, roots_item root) → copy ≡ root → IsCid copy × (content ≡ spelled (header_of copy))
header_found content pairs slice again root copy m same same_again first only has is =
    subst (λ r. IsCid r × (content ≡ spelled (header_of r))) (sym is) (root_found content pairs root m (subst IsVersion1 same first) (subst HasOnlyBoth same only) (subst (λ all. IsAmong all (roots, roots_item root)) same_again has))
