-- Types: what is read is spelled so, and what is spelled so is read.
use Rattle.std.proofs.Common.{◌≡◌, ℕ, zero, suc, ◌≤◌, Bool, true, false, ◌||◌, nat_lt, ◌==◌, if◌then◌else◌, List, [], ◌∷◌, length, Ok, Err, Option, Some, None, IfSome, inl, inr, refl, sym, ap, subst, ◌∙◌, arith}
use Rattle.std.specs.Option.{option_to_list}
use Rattle.std.proofs.lemmas.Bool.{eqb-false, eqb-true, le-ltb, ltb-false, or_from, or_parts}
use Rattle.wasm_types.specs.declared.val_type.ValType.{ValType}
use Rattle.wasm_types.specs.declared.val_type.ValType.TheVariants.{I32, I64}
use Rattle.wasm_types.specs.declared.func_type.FuncType.{FuncType}
use Rattle.wasm_types.specs.declared.raw_module.Limits.{Limits}
use Rattle.wasm_types.specs.declared.limits.TheConstants.{MOST_PARAMS}
use Rattle.wasm_decode.specs.declared.fault.WasmKind.TheVariants as kinds
use Rattle.wasm_decode.specs.Layout.{◌⨾◌, Just, SpellsAll, SpellsVector, SpellsVectorUpTo}
use Rattle.wasm_decode.specs.Modules.{mutability}
use Rattle.wasm_decode.specs.ReadingTypes.{as_value_type, block_type_at, func_type_at, greatest_at, limits_at, no_type, params_at, results_at, results_behind, switch_at, value_type_at, with_result}
use Rattle.wasm_decode.specs.ReadingValues.{byte_at, count_at}
use Rattle.wasm_decode.specs.Stops.{◌>>=◌, Found, refused, unless}
use Rattle.wasm_decode.specs.Types.{SpellsBlockType, SpellsFuncType, SpellsLimits, SpellsLimitsOf, SpellsValueType, value_type}
use Rattle.wasm_decode.specs.Values.{SpellsU32}
use Rattle.wasm_decode.proofs.Fronts.{Again, Front, Takes, both, chosen, found, go, just_is, left, passes, same_found, seen, split, step}
use Rattle.wasm_decode.proofs.NumberLaws.{u32_again, u32_takes}
use Rattle.wasm_decode.proofs.VectorLaws.{byte_again, byte_takes, count_again, count_takes, one_byte, vector_again, vector_takes}

-- ---- types of values

as_value_takes : (place : List ℕ) (byte : ℕ) (behind rest : List ℕ) (t : ValType) → as_value_type place (byte, behind) ≡ Ok (t, rest) → (byte ≡ value_type t) × (behind ≡ rest)
as_value_takes place byte behind rest t e =
    elim (chosen (byte == 0x7f) (found I32 behind) (if byte == 0x7e then found I64 behind else refused (no_type byte) place) (Ok (t, rest)) e) [
      | inl one ↦ let same = same_found one.1 in (eqb-true byte 0x7f one.0 ∙ ap value_type same.0, same.1)
      | inr other ↦
          elim (chosen (byte == 0x7e) (found I64 behind) (refused (no_type byte) place) (Ok (t, rest)) other.1) [
            | inl two ↦ let same = same_found two.1 in (eqb-true byte 0x7e two.0 ∙ ap value_type same.0, same.1)
            | inr none ↦ absurd (never none.1)
          ]
    ]
  where
    never : (let f : Found ValType = refused (no_type byte) place in f) ≡ Ok (t, rest) → ⊥
    never f = cc

as_value_again : (place : List ℕ) (rest : List ℕ) (t : ValType) → as_value_type place (value_type t, rest) ≡ Ok (t, rest)
as_value_again place rest I32 = refl
as_value_again place rest I64 = refl

pub value_type_takes : Takes value_type_at SpellsValueType
unfolding value_type_at
value_type_takes bytes rest t e =
    let byte = step e in
    let same = as_value_takes bytes byte.value.0 byte.value.1 rest t byte.after in
    one_byte byte.value.0 (value_type t) bytes rest (byte_takes bytes byte.value.1 byte.value.0 byte.is ∙ ap (λ (r : List ℕ). byte.value.0 ∷ r) same.1) same.0

pub value_type_again : Again value_type_at SpellsValueType
unfolding value_type_at
value_type_again bytes rest t h =
    go (as_value_type bytes) (value_type t, rest) (byte_again bytes rest (value_type t) (just_is (value_type t ∷ []) bytes rest h)) (as_value_again bytes rest t)

-- a type of values that is read as a result
with_result_takes : (read : Found ValType) (rest : List ℕ) (r : Option ValType) → (read >>= with_result) ≡ Ok (r, rest) → (t : ValType) × (r ≡ Some t) × (read ≡ Ok (t, rest))
with_result_takes (Ok (t, behind)) rest r e = let same = same_found e in (t, sym same.0, ap (found t) same.1)
with_result_takes (Err stop) rest r e = absurd cc

-- ---- types of blocks

pub block_type_takes : Takes block_type_at SpellsBlockType
unfolding block_type_at
block_type_takes bytes rest r e =
    let byte = step e in
    let here = byte_takes bytes byte.value.1 byte.value.0 byte.is in
    elim (chosen (byte.value.0 == 0x40) (found None byte.value.1) (as_value_type bytes byte.value >>= with_result) (Ok (r, rest)) byte.after) [
      | inl none ↦
          let same = same_found none.1 in
          subst (λ (o : Option ValType). Front (SpellsBlockType o) bytes rest) same.0
          (one_byte byte.value.0 0x40 bytes rest (here ∙ ap (λ (bs : List ℕ). byte.value.0 ∷ bs) same.1) (eqb-true byte.value.0 0x40 none.0))
      | inr some ↦
          let result = with_result_takes (as_value_type bytes byte.value) rest r some.1 in
          let same = as_value_takes bytes byte.value.0 byte.value.1 rest result.0 result.2 in
          subst (λ (o : Option ValType). Front (SpellsBlockType o) bytes rest) (sym result.1)
          (one_byte byte.value.0 (value_type result.0) bytes rest (here ∙ ap (λ (bs : List ℕ). byte.value.0 ∷ bs) same.1) same.0)
    ]

pub block_type_again : Again block_type_at SpellsBlockType
unfolding block_type_at
block_type_again bytes rest None h = ap block_type_at (just_is (0x40 ∷ []) bytes rest h)
block_type_again bytes rest (Some I32) h = ap block_type_at (just_is (0x7f ∷ []) bytes rest h)
block_type_again bytes rest (Some I64) h = ap block_type_at (just_is (0x7e ∷ []) bytes rest h)

-- ---- types of functions

-- the results of a type of functions
abbrev SpellsResults : Option ValType → List ℕ → Type 0
SpellsResults r = SpellsVector SpellsValueType (option_to_list r)

no_items : (bytes rest : List ℕ) → bytes ≡ rest → Front (SpellsAll SpellsValueType []) bytes rest
no_items bytes rest is = record { front = []; parts = is; laid = refl }

one_item : (t : ValType) (bytes rest : List ℕ) → Front (SpellsValueType t) bytes rest → Front (SpellsAll SpellsValueType (t ∷ [])) bytes rest
one_item t bytes rest h = both h (no_items rest rest refl)

results_behind_takes : (place : List ℕ) (n : ℕ) (behind rest : List ℕ) (r : Option ValType) → results_behind place (n, behind) ≡ Ok (r, rest)
    → (n ≡ length (option_to_list r)) × Front (SpellsAll SpellsValueType (option_to_list r)) behind rest
results_behind_takes place n behind rest r e =
    elim (chosen (nat_lt 1 n) (refused kinds.Unsupported place) (if n == 0 then found None behind else (value_type_at behind >>= with_result)) (Ok (r, rest)) e) [
      | inl many ↦ absurd (never many.1)
      | inr few ↦
          elim (chosen (n == 0) (found None behind) (value_type_at behind >>= with_result) (Ok (r, rest)) few.1) [
            | inl none ↦
                let same = same_found none.1 in
                subst (λ (o : Option ValType). (n ≡ length (option_to_list o)) × Front (SpellsAll SpellsValueType (option_to_list o)) behind rest) same.0
                (eqb-true n 0 none.0, no_items behind rest same.1)
            | inr some ↦
                let result = with_result_takes (value_type_at behind) rest r some.1 in
                let one : n ≡ 1 = omega (arith, ltb-false 1 n few.0, eqb-false n 0 some.0) in
                subst (λ (o : Option ValType). (n ≡ length (option_to_list o)) × Front (SpellsAll SpellsValueType (option_to_list o)) behind rest) (sym result.1)
                (one, one_item result.0 behind rest (value_type_takes behind rest result.0 result.2))
          ]
    ]
  where
    never : (let f : Found (Option ValType) = refused kinds.Unsupported place in f) ≡ Ok (r, rest) → ⊥
    never f = cc

results_take : Takes results_at SpellsResults
unfolding results_at
results_take bytes rest r e =
    let count = step e in
    let items = results_behind_takes bytes count.value.0 count.value.1 rest r count.after in
    both (subst (λ (n : ℕ). Front (SpellsU32 n) bytes count.value.1) items.0 (u32_takes bytes count.value.1 count.value.0 count.is)) items.1

results_again : Again results_at SpellsResults
unfolding results_at
results_again bytes rest None h =
    let two = split h in
    go (results_behind bytes) (0, two.middle) (u32_again bytes two.middle 0 two.first) (ap (found None) (just_is [] two.middle rest two.second))
results_again bytes rest (Some t) h =
    let two = split h in
    let item = split two.second in
    go (results_behind bytes) (1, two.middle) (u32_again bytes two.middle 1 two.first)
    (go with_result (t, item.middle) (value_type_again two.middle item.middle t item.first) (ap (found (Some t)) (just_is [] item.middle rest item.second)))

-- parameters and results
abbrev SpellsParams : FuncType → List ℕ → Type 0
SpellsParams t = SpellsVectorUpTo MOST_PARAMS SpellsValueType t.params ⨾ SpellsVector SpellsValueType (option_to_list t.result)

params_take : Takes params_at SpellsParams
params_take bytes rest t e =
    let params = step e in
    let results = step params.after in
    let same = same_found results.after in
    subst (λ (f : FuncType). Front (SpellsParams f) bytes rest) same.0
    (both (vector_takes MOST_PARAMS value_type_at SpellsValueType value_type_takes bytes params.value.1 params.value.0 params.is)
    (results_take params.value.1 rest results.value.0 (results.is ∙ ap (found results.value.0) same.1)))

params_again : Again params_at SpellsParams
params_again bytes rest t h =
    let two = split h in
    go (λ params. results_at params.1 >>= λ results. Ok (record { params = params.0; result = results.0 }, results.1)) (t.params, two.middle)
    (vector_again MOST_PARAMS value_type_at SpellsValueType value_type_again bytes two.middle t.params two.first)
    (go (λ results. Ok (record { params = t.params; result = results.0 }, results.1)) (t.result, rest) (results_again two.middle rest t.result two.second) refl)

pub func_type_takes : Takes func_type_at SpellsFuncType
unfolding func_type_at
func_type_takes bytes rest t e =
    let form = step {r = byte_at bytes} {next = λ form. if form.0 == 0x60 then params_at form.1 else refused kinds.Form bytes} e in
    elim (chosen (form.value.0 == 0x60) (params_at form.value.1) (refused kinds.Form bytes) (Ok (t, rest)) form.after) [
      | inl is ↦ both (one_byte form.value.0 0x60 bytes form.value.1 (byte_takes bytes form.value.1 form.value.0 form.is) (eqb-true form.value.0 0x60 is.0)) (params_take form.value.1 rest t is.1)
      | inr other ↦ absurd (never other.1)
    ]
  where
    never : (let f : Found FuncType = refused kinds.Form bytes in f) ≡ Ok (t, rest) → ⊥
    never f = cc

pub func_type_again : Again func_type_at SpellsFuncType
unfolding func_type_at
func_type_again bytes rest t h =
    let two = split h in
    go (λ form. if form.0 == 0x60 then params_at form.1 else refused kinds.Form bytes) (0x60, two.middle) (byte_again bytes two.middle 0x60 (just_is (0x60 ∷ []) bytes two.middle two.first))
    (params_again two.middle rest t two.second)

-- ---- limits

bit_is : (n : ℕ) → n ≤ 1 → n ≡ mutability (n == 1)
bit_is zero small = refl
bit_is (suc zero) small = refl
bit_is (suc (suc n)) small = absurd (omega (arith, small))

pub switch_takes : Takes switch_at (λ b. Just (mutability b ∷ []))
unfolding switch_at
switch_takes bytes rest b e =
    let byte = step e in
    let test = passes (nat_lt 1 byte.value.0) kinds.Form bytes (byte.value.0 == 1, byte.value.1) (b, rest) byte.after in
    let same = same_found (ap (λ (x : Bool × List ℕ). found x.0 x.1) test.1) in
    one_byte byte.value.0 (mutability b) bytes rest (byte_takes bytes byte.value.1 byte.value.0 byte.is ∙ ap (λ (bs : List ℕ). byte.value.0 ∷ bs) same.1)
    (bit_is byte.value.0 (ltb-false 1 byte.value.0 test.0) ∙ ap mutability same.0)

pub switch_again : Again switch_at (λ b. Just (mutability b ∷ []))
unfolding switch_at
switch_again bytes rest false h = ap switch_at (just_is (0 ∷ []) bytes rest h)
switch_again bytes rest true h = ap switch_at (just_is (1 ∷ []) bytes rest h)

-- limits with a greatest size
abbrev bounded : ℕ → ℕ → Limits
bounded least greatest = record { least = least; greatest = Some greatest }

abbrev unbounded : ℕ → Limits
unbounded least = record { least = least; greatest = None }

greatest_takes : (most least : ℕ) (bytes rest : List ℕ) (limits : Limits) → greatest_at most least bytes ≡ Ok (limits, rest)
    → (greatest : ℕ) × (bounded least greatest ≡ limits) × (least ≤ greatest) × (greatest ≤ most) × Front (SpellsU32 greatest) bytes rest
greatest_takes most least bytes rest limits e =
    let greatest = step e in
    let test = passes (nat_lt greatest.value.0 least || nat_lt most greatest.value.0) kinds.Form bytes (bounded least greatest.value.0, greatest.value.1) (limits, rest) greatest.after in
    let same = same_found (ap (λ (x : Limits × List ℕ). found x.0 x.1) test.1) in
    let parts = or_parts (nat_lt greatest.value.0 least) (nat_lt most greatest.value.0) test.0 in
    (greatest.value.0, same.0, ltb-false greatest.value.0 least parts.0, ltb-false most greatest.value.0 parts.1, u32_takes bytes rest greatest.value.0 (greatest.is ∙ ap (found greatest.value.0) same.1))

limits_behind_take : (most_first most : ℕ) (bytes middle behind rest : List ℕ) (flag : Bool) (least : ℕ) (limits : Limits) → Front (Just (mutability flag ∷ [])) bytes middle → least ≤ most_first → Front (SpellsU32 least) middle behind
    → (if flag then greatest_at most least behind else found (unbounded least) behind) ≡ Ok (limits, rest) → Front (SpellsLimits most_first most limits) bytes rest
limits_behind_take most_first most bytes middle behind rest true least limits switch few number e =
    let greatest = greatest_takes most least behind rest limits e in
    subst (λ (l : Limits). Front (SpellsLimits most_first most l) bytes rest) greatest.1
    (seen (λ front laid. (few, (greatest.2, greatest.3), laid)) (both switch (both number greatest.4)))
limits_behind_take most_first most bytes middle behind rest false least limits switch few number e =
    let same = same_found e in
    let up_to : Front (SpellsU32 least) middle rest = subst (λ (r : List ℕ). Front (SpellsU32 least) middle r) same.1 number in
    subst (λ (l : Limits). Front (SpellsLimits most_first most l) bytes rest) same.0
    (seen (λ front laid. (few, tt, laid)) (both switch up_to))

pub limits_take : (most_first most : ℕ) → Takes (limits_at most_first most) (SpellsLimits most_first most)
unfolding limits_at
limits_take most_first most bytes rest limits e =
    let flag = step e in
    let least = step flag.after in
    let number = count_takes most_first flag.value.1 least.value.1 least.value.0 least.is in
    limits_behind_take most_first most bytes flag.value.1 least.value.1 rest flag.value.0 least.value.0 limits (switch_takes bytes flag.value.1 flag.value.0 flag.is) number.0 number.1 least.after

limits_of_again : (most_first most least : ℕ) (greatest : Option ℕ) (bytes rest : List ℕ) → least ≤ most_first → IfSome greatest (λ g. (least ≤ g) × (g ≤ most)) → Front (SpellsLimitsOf least greatest) bytes rest
    → limits_at most_first most bytes ≡ Ok (record { least = least; greatest = greatest }, rest)
unfolding limits_at
limits_of_again most_first most least None bytes rest few within h =
    let two = split h in
    go (λ flag. count_at most_first flag.1 >>= λ m. (if flag.0 then greatest_at most m.0 m.1 else found (unbounded m.0) m.1)) (false, two.middle) (switch_again bytes two.middle false two.first)
    (go (λ m. found (unbounded m.0) m.1) (least, rest) (count_again most_first two.middle rest least few two.second) refl)
limits_of_again most_first most least (Some greatest) bytes rest few within h =
    let two = split h in
    let three = split two.second in
    go (λ flag. count_at most_first flag.1 >>= λ m. (if flag.0 then greatest_at most m.0 m.1 else found (unbounded m.0) m.1)) (true, two.middle) (switch_again bytes two.middle true two.first)
    (go (λ m. greatest_at most m.0 m.1) (least, three.middle) (count_again most_first two.middle three.middle least few three.first)
    (go (λ g. unless (nat_lt g.0 least || nat_lt most g.0) kinds.Form three.middle (bounded least g.0, g.1)) (greatest, rest) (u32_again three.middle rest greatest three.second)
    (left (nat_lt greatest least || nat_lt most greatest) (refused kinds.Form three.middle) (found (bounded least greatest) rest)
    (or_from (nat_lt greatest least) (nat_lt most greatest) (le-ltb greatest least within.0) (le-ltb most greatest within.1)))))

pub limits_again : (most_first most : ℕ) → Again (limits_at most_first most) (SpellsLimits most_first most)
limits_again most_first most bytes rest limits h =
    limits_of_again most_first most limits.least limits.greatest bytes rest h.laid.0 h.laid.1 (record { front = h.front; parts = h.parts; laid = h.laid.2 })
