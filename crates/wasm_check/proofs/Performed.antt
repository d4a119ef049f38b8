-- What an instruction does to operands, and to the types that they can have.
use Rattle.std.proofs.Common.{◌≡◌, ◌≤◌, Bool, true, false, if◌then◌else◌, List, [], ◌∷◌, ◌++◌, length, drop, Option, Some, None, Ok, Err, refl, sym, ap, subst, ◌∙◌, arith}
use Rattle.std.specs.Prelude.{reverse}
use Rattle.std.proofs.lemmas.Bool.{false≢true}
use Rattle.wasm_types.specs.declared.val_type.ValType.{ValType}
use Rattle.wasm_types.specs.declared.val_type.ValType.TheVariants.{I32}
use Rattle.wasm_types.specs.Signatures.{is_same_value}
use Rattle.wasm_check.specs.declared.fault.CheckKind.{CheckKind}
use Rattle.wasm_check.specs.declared.fault.CheckKind.TheVariants as kinds
use Rattle.wasm_check.specs.Effects.{Effect, moves, leaves, disagrees, drops, selects, performed}
use Rattle.wasm_check.specs.Operands.{Operand, OperandStack, behind_jump, common, dropped, is_like, lacks, operand_at, selected, taken, with_operand, with_result, without}
use Rattle.wasm_check.specs.Results.{◌>>=◌}
use Rattle.wasm_check.specs.Typing.{HasEffect}
use Rattle.wasm_check.proofs.Admits.{Admits, AreLike, HasEnough, both_pass, both_passed, enough, not_lacking, one_value, result_from, result_to, same_ok, same_value, some_types, taken_from, taken_to}
use Rattle.wasm_check.proofs.Outcomes.{go, step}

-- types of the operands before an instruction with this effect, if it leaves operands of these types
abbrev pub Before : Effect → OperandStack → List ValType → Type 0
Before effect s after = (before : List ValType) × Admits s before × HasEffect effect before after

-- what an instruction with this effect leaves of operands that can have these types
abbrev pub Behind : Effect → OperandStack → List ValType → Type 0
Behind effect s after = (t : OperandStack) × (performed effect s ≡ Ok t) × Admits t after

-- ---- seen from behind

-- of an instruction that takes and gives
moves_from : (takes : List ValType) (gives : Option ValType) (s t : OperandStack) (after : List ValType) → performed (moves takes gives) s ≡ Ok t → Admits t after → Before (moves takes gives) s after
moves_from takes gives s t after e h =
    let rest = step {r = taken takes s} {next = λ rest. Ok (with_result gives rest)} e in
    let given = result_from gives rest.value after (subst (λ (u : OperandStack). Admits u after) (sym (same_ok {E = CheckKind} (with_result gives rest.value) t rest.after)) h) in
    (reverse takes ++ given.0, taken_from takes s rest.value given.0 rest.is given.2, (given.0, refl, given.1))

-- of a jump: it finds some operands below those that it takes
leaves_from : (takes : List ValType) (s t : OperandStack) (after : List ValType) → performed (leaves takes) s ≡ Ok t → Before (leaves takes) s after
leaves_from takes s t after e =
    let rest = step {r = taken takes s} {next = λ rest. Ok behind_jump} e in
    let some = some_types rest.value.kept rest.value.reached in
    (reverse takes ++ some.0, taken_from takes s rest.value some.0 rest.is some.1, (some.0, refl))

-- a fault stays one whatever a test says
one_fault : (test : Bool) (a b : CheckKind) (t : OperandStack) → (if test then Err a else Err b) ≡ Ok t → ⊥
one_fault true a b t e = absurd cc
one_fault false a b t e = absurd cc

-- one operand more
one_more : (kept : List Operand) (reached : Bool) (after : List ValType) → HasEnough 1 kept reached → AreLike (drop 1 kept) reached after
    → (t : ValType) × AreLike kept reached (t ∷ after)
one_more [] true after h rest = let some : 1 ≤ 0 = h refl in absurd (omega (arith, some))
one_more [] false after h rest = (I32, tt)
one_more (None ∷ kept) reached after h rest = (I32, (refl, rest))
one_more (Some t ∷ kept) reached after h rest = (t, (same_value t, rest))

-- of a `drop`
drops_from : (s t : OperandStack) (after : List ValType) → dropped s ≡ Ok t → Admits t after → Before drops s after
drops_from s t after e h =
    let tests = both_passed (lacks 1 s) true (Ok (without 1 s)) t e in
    let more = one_more s.kept s.reached after (enough 1 s.kept s.reached tests.0) (subst (λ (u : OperandStack). Admits u after) (sym (same_ok {E = CheckKind} (without 1 s) t tests.2)) h) in
    (more.0 ∷ after, more.1, (more.0, refl))

-- three operands more
three_more : (kept : List Operand) (reached : Bool) (t : ValType) (under : List ValType) → HasEnough 3 kept reached
    → (let s : OperandStack = record { kept = kept; reached = reached } in (is_like I32 (operand_at 0 s) ≡ true) × (is_like t (operand_at 1 s) ≡ true) × (is_like t (operand_at 2 s) ≡ true))
    → AreLike (drop 3 kept) reached under → AreLike kept reached (I32 ∷ (t ∷ (t ∷ under)))
three_more [] true t under h like rest = let some : 3 ≤ 0 = h refl in absurd (omega (arith, some))
three_more [] false t under h like rest = tt
three_more (a ∷ []) true t under h like rest = let some : 3 ≤ 1 = h refl in absurd (omega (arith, some))
three_more (a ∷ []) false t under h like rest = (like.0, tt)
three_more (a ∷ (b ∷ [])) true t under h like rest = let some : 3 ≤ 2 = h refl in absurd (omega (arith, some))
three_more (a ∷ (b ∷ [])) false t under h like rest = (like.0, (like.1, tt))
three_more (a ∷ (b ∷ (c ∷ kept))) reached t under h like rest = (like.0, (like.1, (like.2, rest)))

-- two operands that can have one type, and what they then are together
common_from : (t : ValType) (a b o : Operand) → common a b ≡ Ok o → is_like t o ≡ true → (is_like t a ≡ true) × (is_like t b ≡ true)
common_from t None b o e h = (refl, subst (λ (x : Operand). is_like t x ≡ true) (sym (same_ok {E = CheckKind} b o e)) h)
common_from t (Some u) None o e h = (subst (λ (x : Operand). is_like t x ≡ true) (sym (same_ok {E = CheckKind} (Some u) o e)) h, refl)
common_from t (Some u) (Some v) o e h = tested (is_same_value u v) refl e
  where
    tested : (test : Bool) → is_same_value u v ≡ test → (if test then Ok (Some u) else Err kinds.TypeMismatch) ≡ Ok o → (is_like t (Some u) ≡ true) × (is_like t (Some v) ≡ true)
    tested true is e =
        let first : is_like t (Some u) ≡ true = subst (λ (x : Operand). is_like t x ≡ true) (sym (same_ok {E = CheckKind} (Some u) o e)) h in
        (first, ap (λ (w : ValType). is_same_value t w) (sym (one_value u v is)) ∙ first)
    tested false is e = absurd cc

-- a value is selected by what its types were
selects_at : (s : OperandStack) (o : Operand) (after : List ValType) → HasEnough 3 s.kept s.reached → is_like I32 (operand_at 0 s) ≡ true
    → common (operand_at 1 s) (operand_at 2 s) ≡ Ok o → Admits (with_operand o (without 3 s)) after → Before selects s after
selects_at s o [] h like joined rest = absurd rest
selects_at s o (t ∷ under) h like joined rest =
    let two = common_from t (operand_at 1 s) (operand_at 2 s) o joined rest.0 in
    (I32 ∷ (t ∷ (t ∷ under)), three_more s.kept s.reached t under h (like, two.0, two.1) rest.1, (t, under, refl, refl))

-- of a `select`
selects_from : (s t : OperandStack) (after : List ValType) → selected s ≡ Ok t → Admits t after → Before selects s after
selects_from s t after e h =
    let tests = both_passed (lacks 3 s) (is_like I32 (operand_at 0 s)) (common (operand_at 1 s) (operand_at 2 s) >>= λ o. Ok (with_operand o (without 3 s))) t e in
    let o = step {r = common (operand_at 1 s) (operand_at 2 s)} {next = λ o. Ok (with_operand o (without 3 s))} tests.2 in
    selects_at s o.value after (enough 3 s.kept s.reached tests.0) tests.1 o.is
    (subst (λ (u : OperandStack). Admits u after) (sym (same_ok {E = CheckKind} (with_operand o.value (without 3 s)) t o.after)) h)

-- an instruction that had no fault has the effect on types of the operands that it found, for all types of those that it left
pub performed_from : (effect : Effect) (s t : OperandStack) (after : List ValType) → performed effect s ≡ Ok t → Admits t after → Before effect s after
performed_from (moves takes gives) s t after e h = moves_from takes gives s t after e h
performed_from (leaves takes) s t after e h = leaves_from takes s t after e
performed_from (disagrees takes) s t after e h = absurd (one_fault (lacks (length takes) s) kinds.Underflow kinds.TypeMismatch t e)
performed_from drops s t after e h = drops_from s t after e h
performed_from selects s t after e h = selects_from s t after e h

-- ---- seen from before

-- of an instruction that takes and gives
moves_to : (takes : List ValType) (gives : Option ValType) (s : OperandStack) (before after : List ValType) → HasEffect (moves takes gives) before after → Admits s before → Behind (moves takes gives) s after
moves_to takes gives s before after h admits =
    let away = taken_to takes s h.0 (subst (λ (types : List ValType). Admits s types) h.1 admits) in (
      with_result gives (without (length takes) s),
      go (λ rest. Ok (with_result gives rest)) (without (length takes) s) away.0 refl,
      subst (λ (types : List ValType). Admits (with_result gives (without (length takes) s)) types) (sym h.2) (result_to gives (without (length takes) s) h.0 away.1),
    )

-- of a jump: behind it operands can have any types
leaves_to : (takes : List ValType) (s : OperandStack) (before after : List ValType) → HasEffect (leaves takes) before after → Admits s before → Behind (leaves takes) s after
leaves_to takes s before after h admits =
    let away = taken_to takes s h.0 (subst (λ (types : List ValType). Admits s types) h.1 admits) in
    (behind_jump, go (λ rest. Ok behind_jump) (without (length takes) s) away.0 refl, tt)

-- one operand less
one_less : (kept : List Operand) (reached : Bool) (t : ValType) (after : List ValType) → AreLike kept reached (t ∷ after) → HasEnough 1 kept reached × AreLike (drop 1 kept) reached after
one_less [] true t after h = absurd h
one_less [] false t after h = (λ r. absurd (false≢true r), tt)
one_less (o ∷ kept) reached t after h = (λ r. omega arith, h.1)

-- of a `drop`
drops_to : (s : OperandStack) (t : ValType) (after : List ValType) → Admits s (t ∷ after) → Behind drops s after
drops_to s t after h =
    let less = one_less s.kept s.reached t after h in
    (without 1 s, both_pass (lacks 1 s) true (Ok (without 1 s)) (not_lacking 1 s.kept s.reached less.0) refl, less.1)

-- two operands that can have one type are one that can
common_to : (t : ValType) (a b : Operand) → is_like t a ≡ true → is_like t b ≡ true → (o : Operand) × (common a b ≡ Ok o) × (is_like t o ≡ true)
common_to t None b first second = (b, refl, second)
common_to t (Some u) None first second = (Some u, refl, first)
common_to t (Some u) (Some v) first second =
    let one : u ≡ v = sym (one_value t u first) ∙ one_value t v second in
    (Some u, ap (λ (b : Bool). if b then Ok (Some u) else Err kinds.TypeMismatch) (ap (λ (w : ValType). is_same_value u w) (sym one) ∙ same_value u), first)

-- three operands that are there
pub record HasThree (t : ValType) (s : OperandStack) (under : List ValType) : Type 0 where
  pub enough : HasEnough 3 s.kept s.reached
  pub condition : is_like I32 (operand_at 0 s) ≡ true
  pub first : is_like t (operand_at 1 s) ≡ true
  pub second : is_like t (operand_at 2 s) ≡ true
  pub rest : Admits (without 3 s) under

-- what `select` takes is there
three_less : (kept : List Operand) (reached : Bool) (t : ValType) (under : List ValType) → AreLike kept reached (I32 ∷ (t ∷ (t ∷ under)))
    → (let s : OperandStack = record { kept = kept; reached = reached } in HasThree t s under)
three_less [] true t under h = absurd h
three_less [] false t under h = record { enough = λ r. absurd (false≢true r); condition = refl; first = refl; second = refl; rest = tt }
three_less (a ∷ []) true t under h = absurd h.1
three_less (a ∷ []) false t under h = record { enough = λ r. absurd (false≢true r); condition = h.0; first = refl; second = refl; rest = tt }
three_less (a ∷ (b ∷ [])) true t under h = absurd h.1.1
three_less (a ∷ (b ∷ [])) false t under h = record { enough = λ r. absurd (false≢true r); condition = h.0; first = h.1.0; second = refl; rest = tt }
three_less (a ∷ (b ∷ (c ∷ kept))) reached t under h = record { enough = λ r. omega arith; condition = h.0; first = h.1.0; second = h.1.1.0; rest = h.1.1.1 }

-- of a `select`
selects_to : (s : OperandStack) (t : ValType) (under : List ValType) → Admits s (I32 ∷ (t ∷ (t ∷ under))) → Behind selects s (t ∷ under)
selects_to s t under h =
    let three = three_less s.kept s.reached t under h in
    let o = common_to t (operand_at 1 s) (operand_at 2 s) three.first three.second in (
      with_operand o.0 (without 3 s),
      both_pass (lacks 3 s) (is_like I32 (operand_at 0 s)) (common (operand_at 1 s) (operand_at 2 s) >>= λ o. Ok (with_operand o (without 3 s))) (not_lacking 3 s.kept s.reached three.enough) three.condition
          ∙ go (λ o. Ok (with_operand o (without 3 s))) o.0 o.1 refl,
      (o.2, three.rest),
    )

-- an instruction has no fault at operands of the types that it has an effect on, and leaves operands of the types that it leads to
pub performed_to : (effect : Effect) (s : OperandStack) (before after : List ValType) → HasEffect effect before after → Admits s before → Behind effect s after
performed_to (moves takes gives) s before after h admits = moves_to takes gives s before after h admits
performed_to (leaves takes) s before after h admits = leaves_to takes s before after h admits
performed_to (disagrees takes) s before after h admits = absurd h
performed_to drops s before after h admits = drops_to s h.0 after (subst (λ (types : List ValType). Admits s types) h.1 admits)
performed_to selects s before after h admits =
    subst (λ (types : List ValType). Behind selects s types) (sym h.3) (selects_to s h.0 h.1 (subst (λ (types : List ValType). Admits s types) h.2 admits))
