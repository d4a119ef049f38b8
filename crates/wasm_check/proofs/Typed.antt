-- Judging code agrees with the types of code.
use Rattle.std.proofs.Common.{◌≡◌, ℕ, ◌+◌, Bool, true, false, nat_lt, if◌then◌else◌, List, [], ◌∷◌, ◌++◌, length, Option, Some, None, Result, Ok, Err, inl, inr, ◌⊎◌, refl, sym, subst}
use Rattle.std.specs.Prelude.{option_to_list, IfErr}
use Rattle.wasm_types.specs.declared.val_type.ValType.{ValType}
use Rattle.wasm_types.specs.declared.val_type.ValType.TheVariants.{I32}
use Rattle.wasm_types.specs.declared.op.Op.{Op}
use Rattle.wasm_check.specs.declared.fault.CheckKind.{CheckKind}
use Rattle.wasm_check.specs.declared.fault.CheckKind.TheVariants as kinds
use Rattle.wasm_check.specs.declared.limits.TheConstants.{MOST_HEIGHT, MOST_NESTING}
use Rattle.wasm_check.specs.Code.{Code, done, plain, in_block, in_loop, in_if, in_if_else, size}
use Rattle.wasm_check.specs.Effects.{Context, Effect, effect_of, performed}
use Rattle.wasm_check.specs.Judging.{BodyFault, behind_block, inside, judge, judged, opened, opened_if, placed, stepped, within_height}
use Rattle.wasm_check.specs.Operands.{OperandStack, ended, ended_alone, no_operands, taken, with_result}
use Rattle.wasm_check.specs.Results.{◌>>=◌}
use Rattle.wasm_check.specs.Typing.{HasEffect, HasType}
use Rattle.wasm_check.proofs.Admits.{Admits, ended_from, ended_to, result_from, result_to, same_ok, taken_from, taken_to}
use Rattle.wasm_check.proofs.Outcomes.{IsEither, and_then, at_place, go, step, unplaced}
use Rattle.wasm_check.proofs.Performed.{performed_from, performed_to}

-- ---- the limits

-- a fault that the standard does not know
abbrev pub IsLimit : CheckKind → Type 0
IsLimit kind = (kind ≡ kinds.Height) ⊎ (kind ≡ kinds.Nesting)

-- a fault in a body that is such a one
abbrev pub Limited : BodyFault → Type 0
Limited fault = IsLimit fault.kind

-- a test that went well
passed : (test : Bool) (kind : CheckKind) (s t : OperandStack) → (if test then Err kind else Ok s) ≡ Ok t → s ≡ t
passed true kind s t e = absurd cc
passed false kind s t e = same_ok {E = CheckKind} s t e

-- a limit on operands changes nothing
height_same : (below : ℕ) (s t : OperandStack) → within_height below s ≡ Ok t → s ≡ t
height_same below s t e = passed (nat_lt MOST_HEIGHT (length s.kept + below)) kinds.Height s t e

-- nor does one on blocks
opened_same : (C : Context) (s t : OperandStack) → opened C s ≡ Ok t → s ≡ t
opened_same C s t e = passed (nat_lt MOST_NESTING (length C.labels)) kinds.Nesting s t e

-- a test of a limit
limited : (P : OperandStack → Type 0) (test : Bool) (kind : CheckKind) (s : OperandStack) → IsLimit kind → P s → IsEither P IsLimit (if test then Err kind else Ok s)
limited P true kind s limit h = limit
limited P false kind s limit h = h

-- what holds of operands holds if they are not too many
height_or : (P : OperandStack → Type 0) (below : ℕ) (s : OperandStack) → P s → IsEither P IsLimit (within_height below s)
height_or P below s h = limited P (nat_lt MOST_HEIGHT (length s.kept + below)) kinds.Height s (inl refl) h

-- what holds of operands holds if there are not too many blocks
opened_or : (P : OperandStack → Type 0) (C : Context) (s : OperandStack) → P s → IsEither P IsLimit (opened C s)
opened_or P C s h = limited P (nat_lt MOST_NESTING (length C.labels)) kinds.Nesting s (inr refl) h

-- ---- what has no fault has a type

-- types of the operands before code, if it leaves operands of these types
abbrev pub Comes : Context → Code → OperandStack → List ValType → Type 0
Comes C code s after = (before : List ValType) × Admits s before × HasType C code before after

-- an instruction without a block
plain_from : (C : Context) (below : ℕ) (o : Op) (rest : Code) (s t : OperandStack) (after : List ValType) → stepped C below o s ≡ Ok t → Comes C rest t after → Comes C (plain o rest) s after
unfolding HasType
plain_from C below o rest s t after e h =
    let effect = step {r = effect_of C o} {next = λ effect. (performed effect s >>= within_height below)} e in
    let made = step {r = performed effect.value s} {next = within_height below} effect.after in
    let same = height_same below made.value t made.after in
    let back = performed_from effect.value s made.value h.0 made.is (subst (λ (u : OperandStack). Admits u h.0) (sym same) h.1) in
    (back.0, back.1, (effect.value, h.0, effect.is, back.2, h.2))

-- the code in a block had no fault, nor had the end of the block and the code behind it
record IsPassed (inner : Result OperandStack BodyFault) (ends : OperandStack → Result OperandStack CheckKind) (result : Option ValType) (outside : OperandStack) (later : OperandStack → Result OperandStack BodyFault) (t : OperandStack) : Type 0 where
  left : OperandStack
  inner_is : inner ≡ Ok left
  rest : OperandStack
  ends_is : ends left ≡ Ok rest
  behind : OperandStack
  behind_is : with_result result outside ≡ behind
  later_is : later behind ≡ Ok t

-- so a part of a block is taken apart
passed_inner : (end_at below : ℕ) (inner : Result OperandStack BodyFault) (ends : OperandStack → Result OperandStack CheckKind) (result : Option ValType) (outside : OperandStack) (later : OperandStack → Result OperandStack BodyFault) (t : OperandStack)
    → (inner >>= λ u. (placed end_at (ends u >>= behind_block below result outside) >>= later)) ≡ Ok t → IsPassed inner ends result outside later t
passed_inner end_at below inner ends result outside later t e =
    let left = step {r = inner} {next = λ u. (placed end_at (ends u >>= behind_block below result outside) >>= later)} e in
    let behind = step {r = placed end_at (ends left.value >>= behind_block below result outside)} {next = later} left.after in
    let rest = step {r = ends left.value} {next = behind_block below result outside} (unplaced end_at (ends left.value >>= behind_block below result outside) behind.value behind.is) in
    record {
      left = left.value;
      inner_is = left.is;
      rest = rest.value;
      ends_is = rest.is;
      behind = behind.value;
      behind_is = height_same below (with_result result outside) behind.value rest.after;
      later_is = behind.after;
    }

-- a block whose code had no fault
record IsPassedBlock (start : Result OperandStack CheckKind) (inner : OperandStack → Result OperandStack BodyFault) (ends : OperandStack → Result OperandStack CheckKind) (result : Option ValType) (later : OperandStack → Result OperandStack BodyFault) (t : OperandStack) : Type 0 where
  outside : OperandStack
  start_is : start ≡ Ok outside
  only : IsPassed (inner outside) ends result outside later t

-- so a block is taken apart
passed_block : (at end_at below : ℕ) (start : Result OperandStack CheckKind) (inner : OperandStack → Result OperandStack BodyFault) (ends : OperandStack → Result OperandStack CheckKind) (result : Option ValType) (later : OperandStack → Result OperandStack BodyFault) (t : OperandStack)
    → (placed at start >>= λ outside. (inner outside >>= λ u. (placed end_at (ends u >>= behind_block below result outside) >>= later))) ≡ Ok t → IsPassedBlock start inner ends result later t
passed_block at end_at below start inner ends result later t e =
    let outside = step {r = placed at start} {next = λ outside. (inner outside >>= λ u. (placed end_at (ends u >>= behind_block below result outside) >>= later))} e in
    record {
      outside = outside.value;
      start_is = unplaced at start outside.value outside.is;
      only = passed_inner end_at below (inner outside.value) ends result outside.value later t outside.after;
    }

-- a block with two parts, whose code had no fault
record IsPassedTwice (start : Result OperandStack CheckKind) (one two : OperandStack → Result OperandStack BodyFault) (ends : OperandStack → Result OperandStack CheckKind) (result : Option ValType) (later : OperandStack → Result OperandStack BodyFault) (t : OperandStack) : Type 0 where
  outside : OperandStack
  start_is : start ≡ Ok outside
  left : OperandStack
  first_is : one outside ≡ Ok left
  rest : OperandStack
  ends_is : ends left ≡ Ok rest
  second : IsPassed (two outside) ends result outside later t

-- so a block with two parts is taken apart
passed_twice : (at middle_at end_at below : ℕ) (start : Result OperandStack CheckKind) (one two : OperandStack → Result OperandStack BodyFault) (ends : OperandStack → Result OperandStack CheckKind) (result : Option ValType) (later : OperandStack → Result OperandStack BodyFault) (t : OperandStack)
    → (placed at start >>= λ outside. (one outside >>= λ u. (placed middle_at (ends u) >>= λ w. (two outside >>= λ v. (placed end_at (ends v >>= behind_block below result outside) >>= later))))) ≡ Ok t
    → IsPassedTwice start one two ends result later t
passed_twice at middle_at end_at below start one two ends result later t e =
    let outside = step {r = placed at start} {next = λ outside. (one outside >>= λ u. (placed middle_at (ends u) >>= λ w. (two outside >>= λ v. (placed end_at (ends v >>= behind_block below result outside) >>= later))))} e in
    let left = step {r = one outside.value} {next = λ u. (placed middle_at (ends u) >>= λ w. (two outside.value >>= λ v. (placed end_at (ends v >>= behind_block below result outside.value) >>= later)))} outside.after in
    let rest = step {r = placed middle_at (ends left.value)} {next = λ w. (two outside.value >>= λ v. (placed end_at (ends v >>= behind_block below result outside.value) >>= later))} left.after in
    record {
      outside = outside.value;
      start_is = unplaced at start outside.value outside.is;
      left = left.value;
      first_is = left.is;
      rest = rest.value;
      ends_is = unplaced middle_at (ends left.value) rest.value rest.is;
      second = passed_inner end_at below (two outside.value) ends result outside.value later t rest.after;
    }

-- types before a block, from those behind it
before_block : (C : Context) (rest : Code) (result : Option ValType) (s t : OperandStack) (after : List ValType) → with_result result s ≡ t → Comes C rest t after
    → (under : List ValType) × Admits s under × HasType C rest (option_to_list result ++ under) after
before_block C rest result s t after same h =
    let given = result_from result s h.0 (subst (λ (u : OperandStack). Admits u h.0) (sym same) h.1) in
    (given.0, given.2, subst (λ (types : List ValType). HasType C rest types after) given.1 h.2)

-- types before an `if`, from those behind its condition
before_if : (C : Context) (s outside : OperandStack) (under : List ValType) → opened_if C s ≡ Ok outside → Admits outside under → Admits s (I32 ∷ under)
before_if C s outside under e h =
    let open_now = step {r = opened C s} {next = taken (I32 ∷ [])} e in
    subst (λ (u : OperandStack). Admits u (I32 ∷ under)) (sym (opened_same C s open_now.value open_now.is)) (taken_from (I32 ∷ []) open_now.value outside under open_now.after h)

-- code in a block begins with no operands
inside_from : (C : Context) (code : Code) (after : List ValType) → Comes C code no_operands after → HasType C code [] after
inside_from C code after ([], h, typed) = typed
inside_from C code after (t ∷ types, h, typed) = absurd h

-- an `if` without `else` has no result
alone_from : (result : Option ValType) (s u : OperandStack) → ended_alone result s ≡ Ok u → (result ≡ None) × Admits s []
alone_from None s u e = (refl, ended_from None s u e)
alone_from (Some t) s u e = absurd cc

-- code without a fault has each type that leads to types of the operands that it leaves
pub judged_from : (C : Context) (below at : ℕ) (code : Code) (s t : OperandStack) (after : List ValType) → judge C below at code s ≡ Ok t → Admits t after → Comes C code s after
unfolding judge HasType
judged_from C below at done s t after e h = (after, subst (λ (u : OperandStack). Admits u after) (sym (same_ok {E = BodyFault} s t e)) h, refl)
judged_from C below at (plain o rest) s t after e h =
    let one = step {r = placed at (stepped C below o s)} {next = judge C below (at + 1) rest} e in
    plain_from C below o rest s one.value after (unplaced at (stepped C below o s) one.value one.is) (judged_from C below (at + 1) rest one.value t after one.after h)
judged_from C below at (in_block result body rest) s t after e h =
    let p = passed_block at (at + 1 + size body) below (opened C s) (λ outside. judge (inside C result) (length outside.kept + below) (at + 1) body no_operands) (ended result) result (judge C below (at + 2 + size body) rest) t e in
    let inner = inside_from (inside C result) body (option_to_list result) (judged_from (inside C result) (length p.outside.kept + below) (at + 1) body no_operands p.only.left (option_to_list result) p.only.inner_is (ended_from result p.only.left p.only.rest p.only.ends_is)) in
    let around = before_block C rest result p.outside p.only.behind after p.only.behind_is (judged_from C below (at + 2 + size body) rest p.only.behind t after p.only.later_is h) in
    (around.0, subst (λ (u : OperandStack). Admits u around.0) (sym (opened_same C s p.outside p.start_is)) around.1, (inner, around.2))
judged_from C below at (in_loop result body rest) s t after e h =
    let p = passed_block at (at + 1 + size body) below (opened C s) (λ outside. judge (inside C None) (length outside.kept + below) (at + 1) body no_operands) (ended result) result (judge C below (at + 2 + size body) rest) t e in
    let inner = inside_from (inside C None) body (option_to_list result) (judged_from (inside C None) (length p.outside.kept + below) (at + 1) body no_operands p.only.left (option_to_list result) p.only.inner_is (ended_from result p.only.left p.only.rest p.only.ends_is)) in
    let around = before_block C rest result p.outside p.only.behind after p.only.behind_is (judged_from C below (at + 2 + size body) rest p.only.behind t after p.only.later_is h) in
    (around.0, subst (λ (u : OperandStack). Admits u around.0) (sym (opened_same C s p.outside p.start_is)) around.1, (inner, around.2))
judged_from C below at (in_if result body rest) s t after e h =
    let p = passed_block at (at + 1 + size body) below (opened_if C s) (λ outside. judge (inside C result) (length outside.kept + below) (at + 1) body no_operands) (ended_alone result) result (judge C below (at + 2 + size body) rest) t e in
    let alone = alone_from result p.only.left p.only.rest p.only.ends_is in
    let inner = inside_from (inside C result) body [] (judged_from (inside C result) (length p.outside.kept + below) (at + 1) body no_operands p.only.left [] p.only.inner_is alone.1) in
    let around = before_block C rest result p.outside p.only.behind after p.only.behind_is (judged_from C below (at + 2 + size body) rest p.only.behind t after p.only.later_is h) in
    (I32 ∷ around.0, before_if C s p.outside around.0 p.start_is around.1, (around.0, refl, alone.0, inner, subst (λ (r : Option ValType). HasType C rest (option_to_list r ++ around.0) after) alone.0 around.2))
judged_from C below at (in_if_else result first second rest) s t after e h =
    let p = passed_twice at (at + 1 + size first) (at + 2 + size first + size second) below (opened_if C s) (λ outside. judge (inside C result) (length outside.kept + below) (at + 1) first no_operands) (λ outside. judge (inside C result) (length outside.kept + below) (at + 2 + size first) second no_operands) (ended result) result (judge C below (at + 3 + size first + size second) rest) t e in
    let one = inside_from (inside C result) first (option_to_list result) (judged_from (inside C result) (length p.outside.kept + below) (at + 1) first no_operands p.left (option_to_list result) p.first_is (ended_from result p.left p.rest p.ends_is)) in
    let two = inside_from (inside C result) second (option_to_list result) (judged_from (inside C result) (length p.outside.kept + below) (at + 2 + size first) second no_operands p.second.left (option_to_list result) p.second.inner_is (ended_from result p.second.left p.second.rest p.second.ends_is)) in
    let around = before_block C rest result p.outside p.second.behind after p.second.behind_is (judged_from C below (at + 3 + size first + size second) rest p.second.behind t after p.second.later_is h) in
    (I32 ∷ around.0, before_if C s p.outside around.0 p.start_is around.1, (around.0, refl, one, two, around.2))

-- ---- what has a type has no fault but a limit

-- the operands can have these types, if there is no fault. A fault is a limit
abbrev pub Lands : Result OperandStack BodyFault → List ValType → Type 0
Lands r after = IsEither (λ t. Admits t after) Limited r

-- an instruction without a block
plain_to : (C : Context) (below : ℕ) (o : Op) (s : OperandStack) (before between : List ValType) (effect : Effect) → effect_of C o ≡ Ok effect → HasEffect effect before between → Admits s before
    → IsEither (λ t. Admits t between) IsLimit (stepped C below o s)
plain_to C below o s before between effect is has h =
    let made = performed_to effect s before between has h in
    subst (λ (r : Result OperandStack CheckKind). IsEither (λ t. Admits t between) IsLimit r)
    (sym (go (λ effect. (performed effect s >>= within_height below)) effect is (go (within_height below) made.0 made.1 refl)))
    (height_or (λ t. Admits t between) below made.0 made.2)

-- the condition of an `if`
condition_to : (C : Context) (s : OperandStack) (under : List ValType) → Admits s (I32 ∷ under) → IsEither (λ t. Admits t under) IsLimit (opened_if C s)
condition_to C s under h =
    and_then (λ t. Admits t (I32 ∷ under)) (λ t. Admits t under) IsLimit (opened C s) (taken (I32 ∷ [])) (opened_or (λ t. Admits t (I32 ∷ under)) C s h)
    (λ t admits. let away = taken_to (I32 ∷ []) t under admits in subst (λ (r : Result OperandStack CheckKind). IsEither (λ t. Admits t under) IsLimit r) (sym away.0) away.1)

-- the end of a block
end_to : (below : ℕ) (result : Option ValType) (outside : OperandStack) (under : List ValType) (ends : Result OperandStack CheckKind) → (u : OperandStack) × (ends ≡ Ok u) → Admits outside under
    → IsEither (λ t. Admits t (option_to_list result ++ under)) IsLimit (ends >>= behind_block below result outside)
end_to below result outside under ends found h =
    subst (λ (r : Result OperandStack CheckKind). IsEither (λ t. Admits t (option_to_list result ++ under)) IsLimit (r >>= behind_block below result outside)) (sym found.1)
    (height_or (λ t. Admits t (option_to_list result ++ under)) below (with_result result outside) (result_to result outside under h))

-- a step that has a value has no fault
no_fault : (r : Result OperandStack CheckKind) → (u : OperandStack) × (r ≡ Ok u) → IsEither (λ t. Unit {0}) IsLimit r
no_fault (Ok u) h = tt
no_fault (Err kind) h = absurd (ok_only kind h.0 h.1)
  where
    ok_only : (kind : CheckKind) (u : OperandStack) → ◌≡◌ {A = Result OperandStack CheckKind} (Err kind) (Ok u) → ⊥
    ok_only kind u e = cc

-- the code in a block, and the code behind it
inner_to : (end_at below : ℕ) (inner : Result OperandStack BodyFault) (ends : OperandStack → Result OperandStack CheckKind) (result : Option ValType) (outside : OperandStack) (later : OperandStack → Result OperandStack BodyFault)
    (under middle after : List ValType) → Admits outside under → Lands inner middle
    → ((t : OperandStack) → Admits t middle → (u : OperandStack) × (ends t ≡ Ok u)) → ((t : OperandStack) → Admits t (option_to_list result ++ under) → Lands (later t) after)
    → Lands (inner >>= λ u. (placed end_at (ends u >>= behind_block below result outside) >>= later)) after
inner_to end_at below inner ends result outside later under middle after out lands finds goes_on =
    and_then (λ t. Admits t middle) (λ t. Admits t after) Limited inner (λ u. (placed end_at (ends u >>= behind_block below result outside) >>= later)) lands
    (λ u admits. and_then (λ t. Admits t (option_to_list result ++ under)) (λ t. Admits t after) Limited (placed end_at (ends u >>= behind_block below result outside)) later
    (at_place (λ t. Admits t (option_to_list result ++ under)) IsLimit end_at (ends u >>= behind_block below result outside) (end_to below result outside under (ends u) (finds u admits) out))
    goes_on)

-- a block, and the code behind it
block_to : (at end_at below : ℕ) (start : Result OperandStack CheckKind) (inner : OperandStack → Result OperandStack BodyFault) (ends : OperandStack → Result OperandStack CheckKind) (result : Option ValType) (later : OperandStack → Result OperandStack BodyFault)
    (under middle after : List ValType) → IsEither (λ t. Admits t under) IsLimit start → ((u : OperandStack) → Lands (inner u) middle)
    → ((t : OperandStack) → Admits t middle → (u : OperandStack) × (ends t ≡ Ok u)) → ((t : OperandStack) → Admits t (option_to_list result ++ under) → Lands (later t) after)
    → Lands (placed at start >>= λ outside. (inner outside >>= λ u. (placed end_at (ends u >>= behind_block below result outside) >>= later))) after
block_to at end_at below start inner ends result later under middle after starts lands finds goes_on =
    and_then (λ t. Admits t under) (λ t. Admits t after) Limited (placed at start) (λ outside. (inner outside >>= λ u. (placed end_at (ends u >>= behind_block below result outside) >>= later)))
    (at_place (λ t. Admits t under) IsLimit at start starts)
    (λ outside out. inner_to end_at below (inner outside) ends result outside later under middle after out (lands outside) finds goes_on)

-- a block with two parts, and the code behind it
two_to : (at middle_at end_at below : ℕ) (start : Result OperandStack CheckKind) (one two : OperandStack → Result OperandStack BodyFault) (ends : OperandStack → Result OperandStack CheckKind) (result : Option ValType) (later : OperandStack → Result OperandStack BodyFault)
    (under middle after : List ValType) → IsEither (λ t. Admits t under) IsLimit start → ((u : OperandStack) → Lands (one u) middle) → ((u : OperandStack) → Lands (two u) middle)
    → ((t : OperandStack) → Admits t middle → (u : OperandStack) × (ends t ≡ Ok u)) → ((t : OperandStack) → Admits t (option_to_list result ++ under) → Lands (later t) after)
    → Lands (placed at start >>= λ outside. (one outside >>= λ u. (placed middle_at (ends u) >>= λ w. (two outside >>= λ v. (placed end_at (ends v >>= behind_block below result outside) >>= later))))) after
two_to at middle_at end_at below start one two ends result later under middle after starts first second finds goes_on =
    and_then (λ t. Admits t under) (λ t. Admits t after) Limited (placed at start) (λ outside. (one outside >>= λ u. (placed middle_at (ends u) >>= λ w. (two outside >>= λ v. (placed end_at (ends v >>= behind_block below result outside) >>= later)))))
    (at_place (λ t. Admits t under) IsLimit at start starts)
    (λ outside out. and_then (λ t. Admits t middle) (λ t. Admits t after) Limited (one outside) (λ u. (placed middle_at (ends u) >>= λ w. (two outside >>= λ v. (placed end_at (ends v >>= behind_block below result outside) >>= later))))
    (first outside)
    (λ u left. and_then (λ t. Unit {0}) (λ t. Admits t after) Limited (placed middle_at (ends u)) (λ w. (two outside >>= λ v. (placed end_at (ends v >>= behind_block below result outside) >>= later)))
    (at_place (λ t. Unit {0}) IsLimit middle_at (ends u) (no_fault (ends u) (finds u left)))
    (λ w any. inner_to end_at below (two outside) ends result outside later under middle after out (second outside) finds goes_on)))

-- an `if` without `else` ends, if it has no result
alone_to : (result : Option ValType) → result ≡ None → (s : OperandStack) → Admits s [] → (u : OperandStack) × (ended_alone result s ≡ Ok u)
alone_to None is s h = ended_to None s h
alone_to (Some t) is s h = absurd cc

-- code with a type has no fault but a limit, and leaves operands of the types that it leads to
pub judged_to : (C : Context) (below at : ℕ) (code : Code) (s : OperandStack) (before after : List ValType) → HasType C code before after → Admits s before → Lands (judge C below at code s) after
unfolding judge HasType
judged_to C below at done s before after h admits = subst (λ (types : List ValType). Admits s types) h admits
judged_to C below at (plain o rest) s before after h admits =
    and_then (λ t. Admits t h.1) (λ t. Admits t after) Limited (placed at (stepped C below o s)) (judge C below (at + 1) rest)
    (at_place (λ t. Admits t h.1) IsLimit at (stepped C below o s) (plain_to C below o s before h.1 h.0 h.2 h.3 admits))
    (λ t behind. judged_to C below (at + 1) rest t h.1 after h.4 behind)
judged_to C below at (in_block result body rest) s before after h admits =
    block_to at (at + 1 + size body) below (opened C s) (λ outside. judge (inside C result) (length outside.kept + below) (at + 1) body no_operands) (ended result) result (judge C below (at + 2 + size body) rest)
    before (option_to_list result) after (opened_or (λ t. Admits t before) C s admits)
    (λ outside. judged_to (inside C result) (length outside.kept + below) (at + 1) body no_operands [] (option_to_list result) h.0 tt)
    (λ t left. ended_to result t left)
    (λ t behind. judged_to C below (at + 2 + size body) rest t (option_to_list result ++ before) after h.1 behind)
judged_to C below at (in_loop result body rest) s before after h admits =
    block_to at (at + 1 + size body) below (opened C s) (λ outside. judge (inside C None) (length outside.kept + below) (at + 1) body no_operands) (ended result) result (judge C below (at + 2 + size body) rest)
    before (option_to_list result) after (opened_or (λ t. Admits t before) C s admits)
    (λ outside. judged_to (inside C None) (length outside.kept + below) (at + 1) body no_operands [] (option_to_list result) h.0 tt)
    (λ t left. ended_to result t left)
    (λ t behind. judged_to C below (at + 2 + size body) rest t (option_to_list result ++ before) after h.1 behind)
judged_to C below at (in_if result body rest) s before after h admits =
    block_to at (at + 1 + size body) below (opened_if C s) (λ outside. judge (inside C result) (length outside.kept + below) (at + 1) body no_operands) (ended_alone result) result (judge C below (at + 2 + size body) rest)
    h.0 [] after (condition_to C s h.0 (subst (λ (types : List ValType). Admits s types) h.1 admits))
    (λ outside. judged_to (inside C result) (length outside.kept + below) (at + 1) body no_operands [] [] h.3 tt)
    (λ t left. alone_to result h.2 t left)
    (λ t behind. judged_to C below (at + 2 + size body) rest t h.0 after h.4 (subst (λ (r : Option ValType). Admits t (option_to_list r ++ h.0)) h.2 behind))
judged_to C below at (in_if_else result first second rest) s before after h admits =
    two_to at (at + 1 + size first) (at + 2 + size first + size second) below (opened_if C s) (λ outside. judge (inside C result) (length outside.kept + below) (at + 1) first no_operands) (λ outside. judge (inside C result) (length outside.kept + below) (at + 2 + size first) second no_operands) (ended result) result (judge C below (at + 3 + size first + size second) rest)
    h.0 (option_to_list result) after (condition_to C s h.0 (subst (λ (types : List ValType). Admits s types) h.1 admits))
    (λ outside. judged_to (inside C result) (length outside.kept + below) (at + 1) first no_operands [] (option_to_list result) h.2 tt)
    (λ outside. judged_to (inside C result) (length outside.kept + below) (at + 2 + size first) second no_operands [] (option_to_list result) h.3 tt)
    (λ t left. ended_to result t left)
    (λ t behind. judged_to C below (at + 3 + size first + size second) rest t (option_to_list result ++ h.0) after h.4 behind)

-- ---- whole bodies

-- a body without a fault has the type of its function
pub accepted_from : (C : Context) (code : Code) (s : OperandStack) → judged C code ≡ Ok s → HasType C code [] (option_to_list C.result)
unfolding judged
accepted_from C code s e =
    let t = step {r = judge C 0 0 code no_operands} {next = λ t. placed (size code) (ended C.result t)} e in
    inside_from C code (option_to_list C.result)
    (judged_from C 0 0 code no_operands t.value (option_to_list C.result) t.is (ended_from C.result t.value s (unplaced (size code) (ended C.result t.value) s t.after)))

-- a body with the type of its function has no fault but a limit
pub typed_to : (C : Context) (code : Code) → HasType C code [] (option_to_list C.result) → IfErr (judged C code) Limited
unfolding judged
typed_to C code h =
    err_alone (judged C code)
    (and_then (λ t. Admits t (option_to_list C.result)) (λ t. Unit {0}) Limited (judge C 0 0 code no_operands) (λ t. placed (size code) (ended C.result t))
    (judged_to C 0 0 code no_operands [] (option_to_list C.result) h tt)
    (λ t left. at_place (λ t. Unit {0}) IsLimit (size code) (ended C.result t) (no_fault (ended C.result t) (ended_to C.result t left))))
  where
    err_alone : (r : Result OperandStack BodyFault) → IsEither (λ t. Unit {0}) Limited r → IfErr r Limited
    err_alone (Ok t) h = tt
    err_alone (Err fault) h = h
