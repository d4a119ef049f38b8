-- Reading groups of locals, one after another.
use Rattle.std.proofs.Common.{◌≡◌, ℕ, zero, suc, ◌-◌, ◌<◌, List, ◌++◌, length, replicate, Ok, Err, sym, ap, ◌∙◌, arith}
use Rattle.wasm_types.specs.declared.limits.TheConstants.{MOST_LOCALS}
use Rattle.wasm_types.specs.declared.val_type.ValType.{ValType}
use Rattle.wasm_decode.specs.declared.fault.Stop.{Stop}
use Rattle.wasm_decode.specs.ReadingSections.{groups_at}
use Rattle.wasm_decode.specs.ReadingTypes.{value_type_at}
use Rattle.wasm_decode.specs.ReadingValues.{count_at}
use Rattle.wasm_decode.specs.Stops.{◌>>=◌, Found}

-- the rest behind the number of locals of a group
abbrev behind_size : List ValType → ℕ → ℕ × List ℕ → Found (List ValType)
behind_size locals left n = value_type_at n.1 >>= λ t. groups_at (locals ++ replicate n.0 t.0) left t.1

next : (locals : List ValType) (room left : ℕ) (bytes : List ℕ) → 0 < left → room ≡ MOST_LOCALS - length locals → groups_at locals left bytes ≡ (count_at room bytes >>= behind_size locals (left - 1))
unfolding groups_at
next locals room zero bytes some same = absurd (omega (arith, some))
next locals room (suc left) bytes some same =
    ap (λ (n : ℕ). count_at (MOST_LOCALS - length locals) bytes >>= behind_size locals n) (let e : left ≡ suc left - 1 = omega arith in e)
    ∙ ap (λ (n : ℕ). count_at n bytes >>= behind_size locals (suc left - 1)) (sym same)

-- one more group
pub groups_more : (locals more : List ValType) (room left n : ℕ) (t : ValType) (bytes behind rest : List ℕ) (whole : Found (List ValType)) → 0 < left → room ≡ MOST_LOCALS - length locals
    → count_at room bytes ≡ Ok (n, behind) → value_type_at behind ≡ Ok (t, rest) → more ≡ locals ++ replicate n t → groups_at locals left bytes ≡ whole → groups_at more (left - 1) rest ≡ whole
groups_more locals more room left n t bytes behind rest whole some same counted typed grown so_far =
    ap (λ (xs : List ValType). groups_at xs (left - 1) rest) grown
    ∙ (sym (next locals room left bytes some same ∙ (ap (λ (r : Found ℕ). r >>= behind_size locals (left - 1)) counted
    ∙ ap (λ (r : Found ValType). r >>= λ t. groups_at (locals ++ replicate n t.0) (left - 1) t.1) typed)) ∙ so_far)

-- there is no number of locals
pub groups_no_size : (locals : List ValType) (room left : ℕ) (bytes : List ℕ) (stop : Stop) (whole : Found (List ValType)) → 0 < left → room ≡ MOST_LOCALS - length locals
    → count_at room bytes ≡ Err stop → groups_at locals left bytes ≡ whole → whole ≡ Err stop
groups_no_size locals room left bytes stop whole some same counted so_far =
    sym so_far ∙ (next locals room left bytes some same ∙ ap (λ (r : Found ℕ). r >>= behind_size locals (left - 1)) counted)

-- there is no type
pub groups_no_type : (locals : List ValType) (room left n : ℕ) (bytes behind : List ℕ) (stop : Stop) (whole : Found (List ValType)) → 0 < left → room ≡ MOST_LOCALS - length locals
    → count_at room bytes ≡ Ok (n, behind) → value_type_at behind ≡ Err stop → groups_at locals left bytes ≡ whole → whole ≡ Err stop
groups_no_type locals room left n bytes behind stop whole some same counted typed so_far =
    sym so_far ∙ (next locals room left bytes some same ∙ (ap (λ (r : Found ℕ). r >>= behind_size locals (left - 1)) counted
    ∙ ap (λ (r : Found ValType). r >>= λ t. groups_at (locals ++ replicate n t.0) (left - 1) t.1) typed))

-- all are read
pub groups_all : (locals row : List ValType) (left : ℕ) (bytes : List ℕ) (whole : Found (List ValType)) → left ≡ 0 → row ≡ locals → groups_at locals left bytes ≡ whole → whole ≡ Ok (row, bytes)
unfolding groups_at
groups_all locals row left bytes whole none same so_far =
    sym so_far ∙ (ap (λ (n : ℕ). groups_at locals n bytes) none ∙ ap (λ (xs : List ValType). let found : Found (List ValType) = Ok (xs, bytes) in found) (sym same))
