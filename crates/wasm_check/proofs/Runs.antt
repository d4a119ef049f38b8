-- Code that is read from its front, over the blocks that are open, is judged as it nests.
use Rattle.std.proofs.Common.{◌≡◌, ℕ, ◌+◌, nat_lt, if◌then◌else◌, List, [], ◌∷◌, ◌++◌, length, take, slice_get, zero, suc, true, Option, Some, Result, Ok, Err, inl, inr, refl, sym, ap, subst, ◌∙◌, ◌<◌, arith}
use Rattle.std.specs.List.{AllZip}
use Rattle.std.proofs.lemmas.Bool.{cases_order}
use Rattle.std.proofs.lemmas.List.{append-nil, append_assoc, append_cancel_right, length-append, length-map}
use Rattle.std.proofs.lemmas.Option.{none-some, same_Some}
use Rattle.wasm_types.specs.declared.val_type.ValType.{ValType}
use Rattle.wasm_types.specs.declared.val_type.ValType.TheVariants.{I32}
use Rattle.wasm_types.specs.declared.func_type.FuncType.{FuncType}
use Rattle.wasm_types.specs.declared.raw_module.Body.{Body}
use Rattle.wasm_types.specs.declared.raw_module.RawModule.{RawModule}
use Rattle.wasm_types.specs.declared.op.Op.{Op}
use Rattle.wasm_types.specs.declared.op.Op.TheVariants as op
use Rattle.wasm_check.specs.declared.fault.CheckFault.{CheckFault}
use Rattle.wasm_check.specs.declared.fault.CheckKind.{CheckKind}
use Rattle.wasm_check.specs.declared.fault.CheckKind.TheVariants as kinds
use Rattle.wasm_check.specs.declared.levels.Level.{Level}
use Rattle.wasm_check.specs.declared.levels.LevelKind.{LevelKind}
use Rattle.wasm_check.specs.declared.levels.LevelKind.TheVariants as levels
use Rattle.wasm_check.specs.declared.limits.TheConstants.{MOST_NESTING}
use Rattle.wasm_check.specs.Code.{Code, HasPlainOps, IsNestedAs, done, flat, in_block, in_if, in_if_else, in_loop, is_plain, plain, size}
use Rattle.wasm_check.specs.Effects.{Context, Effect, effect_of, performed}
use Rattle.wasm_check.specs.Judging.{BodyFault, behind_block, inside, judge, judged, opened, opened_if, placed, stepped, within_height}
use Rattle.wasm_check.specs.Machine.{acted, begun, context_in, ended_by, entered, height_of, label_by, label_of, may_nest, opened_in, run, step, with_operands}
use Rattle.wasm_check.specs.Operands.{OperandStack, ended, no_operands, taken}
use Rattle.wasm_check.specs.Validity.{IsBodyFault, IsFirstFault, IsJudged, IsValid, IsValidBody, body_context, of_body, of_module}
use Rattle.wasm_check.specs.Results.{◌>>=◌}

-- ---- one step after another

-- steps may be taken together from either side
associated : {A B D E : Type 0} (r : Result A E) (f : A → Result B E) (g : B → Result D E) → (r >>= λ x. (f x >>= g)) ≡ ((r >>= f) >>= g)
associated (Ok x) f g = refl
associated (Err fault) f g = refl

-- what a step gives is taken in another form
apart : {A B D G : Type 0} (at : ℕ) (r : Result A CheckKind) (f : A → D) (k : D → Result B BodyFault) (g : A → Result G BodyFault) (m : G → Result B BodyFault)
    → ((x : A) → k (f x) ≡ (g x >>= m)) → (placed at (r >>= λ x. Ok (f x)) >>= k) ≡ ((placed at r >>= g) >>= m)
apart at (Ok x) f k g m h = h x
apart at (Err kind) f k g m h = refl

-- what goes on behind a step is two steps
after : {A B G : Type 0} (r : Result A BodyFault) (k : A → Result B BodyFault) (g : A → Result G BodyFault) (m : G → Result B BodyFault)
    → ((x : A) → k x ≡ (g x >>= m)) → (r >>= k) ≡ ((r >>= g) >>= m)
after (Ok x) k g m h = h x
after (Err fault) k g m h = refl

-- ---- steps in the innermost block

-- an effect on the innermost block
effect_step : (r : Result Effect CheckKind) (level : Level) (outer : List Level)
    → (r >>= λ effect. acted effect (level ∷ outer)) ≡ ((r >>= λ effect. (performed effect level.operands >>= within_height (height_of outer))) >>= λ s. Ok (with_operands level s ∷ outer))
effect_step (Ok effect) level outer = associated (performed effect level.operands) (within_height (height_of outer)) (λ s. Ok (with_operands level s ∷ outer))
effect_step (Err kind) level outer = refl

-- an instruction without a block is a step in the innermost one
plain_step : (o : Op) (C : Context) (level : Level) (outer : List Level) → is_plain o ≡ true
    → step C o (level ∷ outer) ≡ (stepped (context_in C (level ∷ outer)) (height_of outer) o level.operands >>= λ s. Ok (with_operands level s ∷ outer))
plain_step (op.Block result) C level outer p = absurd cc
plain_step (op.Loop result) C level outer p = absurd cc
plain_step (op.If result) C level outer p = absurd cc
plain_step op.Else C level outer p = absurd cc
plain_step op.End C level outer p = absurd cc
plain_step o C level outer p = effect_step (effect_of (context_in C (level ∷ outer)) o) level outer

-- the same limit holds for blocks that are open and for labels
nests : (C : Context) (blocks : List Level) (s : OperandStack) → may_nest blocks s ≡ opened (context_in C blocks) s
nests C blocks s = ap (λ (n : ℕ). let r : Result OperandStack CheckKind = if nat_lt MOST_NESTING n then Err kinds.Nesting else Ok s in r) (sym (length-map blocks label_of))

-- the beginning of a block
block_step : (C : Context) (kind : LevelKind) (result : Option ValType) (level : Level) (outer : List Level)
    → opened_in kind result (level ∷ outer) ≡ (opened (context_in C (level ∷ outer)) level.operands >>= entered kind result level outer)
block_step C kind result level outer = ap (λ (r : Result OperandStack CheckKind). r >>= entered kind result level outer) (nests C (level ∷ outer) level.operands)

-- the beginning of an `if`
if_step : (C : Context) (result : Option ValType) (level : Level) (outer : List Level)
    → step C (op.If result) (level ∷ outer) ≡ (opened_if (context_in C (level ∷ outer)) level.operands >>= entered levels.If result level outer)
if_step C result level outer = ap (λ (r : Result OperandStack CheckKind). r >>= taken (I32 ∷ []) >>= entered levels.If result level outer) (nests C (level ∷ outer) level.operands)

-- the end of a block in another
end_step : (C : Context) (kind : LevelKind) (result : Option ValType) (t : OperandStack) (level : Level) (outer : List Level)
    → step C op.End (with_operands (begun kind result) t ∷ (level ∷ outer)) ≡ (ended_by kind result t >>= behind_block (height_of outer) result level.operands >>= λ s. Ok (with_operands level s ∷ outer))
end_step C kind result t level outer = associated (ended_by kind result t) (behind_block (height_of outer) result level.operands) (λ s. Ok (with_operands level s ∷ outer))

-- ---- code in the innermost block

-- the instructions behind some code, of which the first has this number
abbrev behind : Context → ℕ → List Op → Level → List Level → OperandStack → Result (List Level) BodyFault
behind C at tail level outer s = run C at tail (with_operands level s ∷ outer)

-- the operands behind code in the innermost block
abbrev judged_in : Context → Level → List Level → ℕ → Code → OperandStack → Result OperandStack BodyFault
judged_in C level outer at c s = judge (context_in C (level ∷ outer)) (height_of outer) at c s

-- code in the innermost block, with these operands, is judged as it nests
abbrev IsRead : Context → ℕ → ℕ → Code → Level → List Level → List Op → OperandStack → Type 0
IsRead C at n c level outer tail s = run C at (flat c ++ tail) (with_operands level s ∷ outer) ≡ (judged_in C level outer at c s >>= behind C n tail level outer)

-- a step in the innermost block, and the code behind it
stepping : (C : Context) (p q n : ℕ) (rest : Code) (r : Result OperandStack CheckKind) (level : Level) (outer : List Level) (tail : List Op) → p + 1 ≡ q → ((s : OperandStack) → IsRead C q n rest level outer tail s)
    → (placed p (r >>= λ s. Ok (with_operands level s ∷ outer)) >>= run C (p + 1) (flat rest ++ tail)) ≡ ((placed p r >>= judged_in C level outer q rest) >>= behind C n tail level outer)
stepping C p q n rest r level outer tail e later =
    apart p r (λ s. with_operands level s ∷ outer) (run C (p + 1) (flat rest ++ tail)) (judged_in C level outer q rest) (behind C n tail level outer)
    (λ s. ap (λ (m : ℕ). run C m (flat rest ++ tail) (with_operands level s ∷ outer)) e ∙ later s)

-- the end of a block, and the code behind it
end_read : (C : Context) (p q n : ℕ) (kind : LevelKind) (result : Option ValType) (rest : Code) (t outside : OperandStack) (level : Level) (outer : List Level) (tail : List Op) → p + 1 ≡ q → ((s : OperandStack) → IsRead C q n rest level outer tail s)
    → run C p (op.End ∷ (flat rest ++ tail)) (with_operands (begun kind result) t ∷ (with_operands level outside ∷ outer))
    ≡ ((placed p (ended_by kind result t >>= behind_block (height_of outer) result outside) >>= judged_in C level outer q rest) >>= behind C n tail level outer)
unfolding run
end_read C p q n kind result rest t outside level outer tail e later =
    ap (λ (blocks : Result (List Level) CheckKind). placed p blocks >>= run C (p + 1) (flat rest ++ tail)) (end_step C kind result t (with_operands level outside) outer)
    ∙ stepping C p q n rest (ended_by kind result t >>= behind_block (height_of outer) result outside) level outer tail e later

-- the operands behind a part of a block, of which the first instruction and its `end` have these numbers, and the code behind
-- it, where these operands are around it
abbrev through_part : Context → ℕ → ℕ → ℕ → ℕ → LevelKind → Option ValType → Code → Code → OperandStack → Result OperandStack BodyFault
through_part K below b p q kind result body rest outside =
    judge (inside K (label_by kind result)) (length outside.kept + below) b body no_operands >>= λ t.
    (placed p (ended_by kind result t >>= behind_block below result outside) >>= judge K below q rest)

-- a part of a block up to its `end`, and the code behind it
part_read : (C : Context) (b p q n : ℕ) (kind : LevelKind) (result : Option ValType) (body rest : Code) (outside : OperandStack) (level : Level) (outer : List Level) (tail : List Op) → p + 1 ≡ q
    → IsRead C b p body (begun kind result) (with_operands level outside ∷ outer) (op.End ∷ (flat rest ++ tail)) no_operands → ((s : OperandStack) → IsRead C q n rest level outer tail s)
    → run C b (flat body ++ (op.End ∷ (flat rest ++ tail))) (begun kind result ∷ (with_operands level outside ∷ outer))
    ≡ (through_part (context_in C (level ∷ outer)) (height_of outer) b p q kind result body rest outside >>= behind C n tail level outer)
part_read C b p q n kind result body rest outside level outer tail e inner later =
    inner
    ∙ after (judged_in C (begun kind result) (with_operands level outside ∷ outer) b body no_operands)
    (behind C p (op.End ∷ (flat rest ++ tail)) (begun kind result) (with_operands level outside ∷ outer))
    (λ t. placed p (ended_by kind result t >>= behind_block (height_of outer) result outside) >>= judged_in C level outer q rest)
    (behind C n tail level outer)
    (λ t. end_read C p q n kind result rest t outside level outer tail e later)

-- a block, and the code behind it
block_read : (C : Context) (at n : ℕ) (kind : LevelKind) (result : Option ValType) (body rest : Code) (r : Result OperandStack CheckKind) (level : Level) (outer : List Level) (tail : List Op)
    → ((outside : OperandStack) → IsRead C (at + 1) (at + 1 + size body) body (begun kind result) (with_operands level outside ∷ outer) (op.End ∷ (flat rest ++ tail)) no_operands)
    → ((s : OperandStack) → IsRead C (at + 2 + size body) n rest level outer tail s)
    → (placed at (r >>= entered kind result level outer) >>= run C (at + 1) ((flat body ++ (op.End ∷ flat rest)) ++ tail))
    ≡ ((placed at r >>= through_part (context_in C (level ∷ outer)) (height_of outer) (at + 1) (at + 1 + size body) (at + 2 + size body) kind result body rest) >>= behind C n tail level outer)
block_read C at n kind result body rest r level outer tail inner later =
    apart at r (λ outside. begun kind result ∷ (with_operands level outside ∷ outer)) (run C (at + 1) ((flat body ++ (op.End ∷ flat rest)) ++ tail))
    (through_part (context_in C (level ∷ outer)) (height_of outer) (at + 1) (at + 1 + size body) (at + 2 + size body) kind result body rest) (behind C n tail level outer)
    (λ outside.
    ap (λ (ops : List Op). run C (at + 1) ops (begun kind result ∷ (with_operands level outside ∷ outer))) (append_assoc (flat body) (op.End ∷ flat rest) tail)
    ∙ part_read C (at + 1) (at + 1 + size body) (at + 2 + size body) n kind result body rest outside level outer tail (omega arith) (inner outside) later)

-- an `else`, the second part of the block, and the code behind it
else_read : (C : Context) (p b e q n : ℕ) (result : Option ValType) (second rest : Code) (t outside : OperandStack) (level : Level) (outer : List Level) (tail : List Op) → p + 1 ≡ b → e + 1 ≡ q
    → IsRead C b e second (begun levels.Block result) (with_operands level outside ∷ outer) (op.End ∷ (flat rest ++ tail)) no_operands → ((s : OperandStack) → IsRead C q n rest level outer tail s)
    → run C p (op.Else ∷ (flat second ++ (op.End ∷ (flat rest ++ tail)))) (with_operands (begun levels.If result) t ∷ (with_operands level outside ∷ outer))
    ≡ ((placed p (ended result t) >>= λ u. through_part (context_in C (level ∷ outer)) (height_of outer) b e q levels.Block result second rest outside) >>= behind C n tail level outer)
unfolding run
else_read C p b e q n result second rest t outside level outer tail next last inner later =
    apart p (ended result t) (λ u. begun levels.Block result ∷ (with_operands level outside ∷ outer)) (run C (p + 1) (flat second ++ (op.End ∷ (flat rest ++ tail))))
    (λ u. through_part (context_in C (level ∷ outer)) (height_of outer) b e q levels.Block result second rest outside) (behind C n tail level outer)
    (λ u.
    ap (λ (m : ℕ). run C m (flat second ++ (op.End ∷ (flat rest ++ tail))) (begun levels.Block result ∷ (with_operands level outside ∷ outer))) next
    ∙ part_read C b e q n levels.Block result second rest outside level outer tail last inner later)

-- the instructions of both parts of an `if`, and those behind them
parts_joined : (first second rest tail : List Op) → (first ++ (op.Else ∷ (second ++ (op.End ∷ rest)))) ++ tail ≡ first ++ (op.Else ∷ (second ++ (op.End ∷ (rest ++ tail))))
parts_joined first second rest tail = append_assoc first (op.Else ∷ (second ++ (op.End ∷ rest))) tail ∙ ap (λ (ops : List Op). first ++ (op.Else ∷ ops)) (append_assoc second (op.End ∷ rest) tail)

-- the operands behind an `if` with both parts and the code behind it, where these operands are around it
abbrev through_parts : Context → ℕ → ℕ → Option ValType → Code → Code → Code → OperandStack → Result OperandStack BodyFault
through_parts K below at result first second rest outside =
    judge (inside K result) (length outside.kept + below) (at + 1) first no_operands >>= λ t.
    (placed (at + 1 + size first) (ended result t) >>= λ u.
    through_part K below (at + 2 + size first) (at + 2 + size first + size second) (at + 3 + size first + size second) levels.Block result second rest outside)

-- an `if` with both parts, and the code behind it
parts_read : (C : Context) (at n : ℕ) (result : Option ValType) (first second rest : Code) (r : Result OperandStack CheckKind) (level : Level) (outer : List Level) (tail : List Op)
    → ((outside : OperandStack) → IsRead C (at + 1) (at + 1 + size first) first (begun levels.If result) (with_operands level outside ∷ outer) (op.Else ∷ (flat second ++ (op.End ∷ (flat rest ++ tail)))) no_operands)
    → ((outside : OperandStack) → IsRead C (at + 2 + size first) (at + 2 + size first + size second) second (begun levels.Block result) (with_operands level outside ∷ outer) (op.End ∷ (flat rest ++ tail)) no_operands)
    → ((s : OperandStack) → IsRead C (at + 3 + size first + size second) n rest level outer tail s)
    → (placed at (r >>= entered levels.If result level outer) >>= run C (at + 1) ((flat first ++ (op.Else ∷ (flat second ++ (op.End ∷ flat rest)))) ++ tail))
    ≡ ((placed at r >>= through_parts (context_in C (level ∷ outer)) (height_of outer) at result first second rest) >>= behind C n tail level outer)
parts_read C at n result first second rest r level outer tail inner other later =
    apart at r (λ outside. begun levels.If result ∷ (with_operands level outside ∷ outer)) (run C (at + 1) ((flat first ++ (op.Else ∷ (flat second ++ (op.End ∷ flat rest)))) ++ tail))
    (through_parts (context_in C (level ∷ outer)) (height_of outer) at result first second rest) (behind C n tail level outer)
    (λ outside.
    ap (λ (ops : List Op). run C (at + 1) ops (begun levels.If result ∷ (with_operands level outside ∷ outer))) (parts_joined (flat first) (flat second) (flat rest) tail)
    ∙ (inner outside
    ∙ after (judged_in C (begun levels.If result) (with_operands level outside ∷ outer) (at + 1) first no_operands)
    (behind C (at + 1 + size first) (op.Else ∷ (flat second ++ (op.End ∷ (flat rest ++ tail)))) (begun levels.If result) (with_operands level outside ∷ outer))
    (λ t. placed (at + 1 + size first) (ended result t) >>= λ u. through_part (context_in C (level ∷ outer)) (height_of outer) (at + 2 + size first) (at + 2 + size first + size second) (at + 3 + size first + size second) levels.Block result second rest outside)
    (behind C n tail level outer)
    (λ t. else_read C (at + 1 + size first) (at + 2 + size first) (at + 2 + size first + size second) (at + 3 + size first + size second) n result second rest t outside level outer tail
    (omega arith) (omega arith) (other outside) later)))

-- ---- all code

-- the number behind a block and the code behind it
behind_block_is : (at n : ℕ) (body rest : List Op) → n ≡ at + suc (length (body ++ (op.End ∷ rest))) → n ≡ at + 2 + length body + length rest
behind_block_is at n body rest e = omega (arith, e, length-append body (op.End ∷ rest))

-- the same for an `if` with both parts
behind_parts_is : (at n : ℕ) (first second rest : List Op) → n ≡ at + suc (length (first ++ (op.Else ∷ (second ++ (op.End ∷ rest))))) → n ≡ at + 3 + length first + length second + length rest
behind_parts_is at n first second rest e = omega (arith, e, length-append first (op.Else ∷ (second ++ (op.End ∷ rest))), length-append second (op.End ∷ rest))

-- code is judged as it nests
pub reads : (c : Code) (C : Context) (at n : ℕ) (level : Level) (outer : List Level) (tail : List Op) (s : OperandStack) → n ≡ at + size c → HasPlainOps c → IsRead C at n c level outer tail s
unfolding run judge
reads done C at n level outer tail s e p = ap (λ (m : ℕ). run C m tail (with_operands level s ∷ outer)) (let f : at ≡ n = omega (arith, e) in f)
reads (plain o rest) C at n level outer tail s e p =
    ap (λ (blocks : Result (List Level) CheckKind). placed at blocks >>= run C (at + 1) (flat rest ++ tail)) (plain_step o C (with_operands level s) outer p.0)
    ∙ stepping C at (at + 1) n rest (stepped (context_in C (level ∷ outer)) (height_of outer) o s) level outer tail refl
    (λ t. reads rest C (at + 1) n level outer tail t (omega (arith, e)) p.1)
reads (in_block result body rest) C at n level outer tail s e p =
    ap (λ (blocks : Result (List Level) CheckKind). placed at blocks >>= run C (at + 1) ((flat body ++ (op.End ∷ flat rest)) ++ tail)) (block_step C levels.Block result (with_operands level s) outer)
    ∙ block_read C at n levels.Block result body rest (opened (context_in C (level ∷ outer)) s) level outer tail
    (λ outside. reads body C (at + 1) (at + 1 + size body) (begun levels.Block result) (with_operands level outside ∷ outer) (op.End ∷ (flat rest ++ tail)) no_operands refl p.0)
    (λ t. reads rest C (at + 2 + size body) n level outer tail t (behind_block_is at n (flat body) (flat rest) e) p.1)
reads (in_loop result body rest) C at n level outer tail s e p =
    ap (λ (blocks : Result (List Level) CheckKind). placed at blocks >>= run C (at + 1) ((flat body ++ (op.End ∷ flat rest)) ++ tail)) (block_step C levels.Loop result (with_operands level s) outer)
    ∙ block_read C at n levels.Loop result body rest (opened (context_in C (level ∷ outer)) s) level outer tail
    (λ outside. reads body C (at + 1) (at + 1 + size body) (begun levels.Loop result) (with_operands level outside ∷ outer) (op.End ∷ (flat rest ++ tail)) no_operands refl p.0)
    (λ t. reads rest C (at + 2 + size body) n level outer tail t (behind_block_is at n (flat body) (flat rest) e) p.1)
reads (in_if result body rest) C at n level outer tail s e p =
    ap (λ (blocks : Result (List Level) CheckKind). placed at blocks >>= run C (at + 1) ((flat body ++ (op.End ∷ flat rest)) ++ tail)) (if_step C result (with_operands level s) outer)
    ∙ block_read C at n levels.If result body rest (opened_if (context_in C (level ∷ outer)) s) level outer tail
    (λ outside. reads body C (at + 1) (at + 1 + size body) (begun levels.If result) (with_operands level outside ∷ outer) (op.End ∷ (flat rest ++ tail)) no_operands refl p.0)
    (λ t. reads rest C (at + 2 + size body) n level outer tail t (behind_block_is at n (flat body) (flat rest) e) p.1)
reads (in_if_else result first second rest) C at n level outer tail s e p =
    ap (λ (blocks : Result (List Level) CheckKind). placed at blocks >>= run C (at + 1) ((flat first ++ (op.Else ∷ (flat second ++ (op.End ∷ flat rest)))) ++ tail)) (if_step C result (with_operands level s) outer)
    ∙ parts_read C at n result first second rest (opened_if (context_in C (level ∷ outer)) s) level outer tail
    (λ outside. reads first C (at + 1) (at + 1 + size first) (begun levels.If result) (with_operands level outside ∷ outer) (op.Else ∷ (flat second ++ (op.End ∷ (flat rest ++ tail)))) no_operands refl p.0)
    (λ outside. reads second C (at + 2 + size first) (at + 2 + size first + size second) (begun levels.Block result) (with_operands level outside ∷ outer) (op.End ∷ (flat rest ++ tail)) no_operands refl p.1)
    (λ t. reads rest C (at + 3 + size first + size second) n level outer tail t (behind_parts_is at n (flat first) (flat second) (flat rest) e) p.2)

-- the same, said of the operands that the innermost block has
pub runs : (c : Code) (C : Context) (at : ℕ) (level : Level) (outer : List Level) (tail : List Op) → HasPlainOps c
    → run C at (flat c ++ tail) (level ∷ outer) ≡ (judge (context_in C (level ∷ outer)) (height_of outer) at c level.operands >>= λ s. run C (at + size c) tail (with_operands level s ∷ outer))
runs c C at level outer tail p = reads c C at (at + size c) level outer tail level.operands refl p

-- ---- one verdict

-- the operands of the innermost block
abbrev pub innermost : List Level → OperandStack
innermost [] = no_operands
innermost (level ∷ outer) = level.operands

-- where the code of a body stands: inside the function's label alone
abbrev pub in_body : Context → Context
in_body C = context_in C (begun levels.Block C.result ∷ [])

-- what is found of a body whose code is judged so
abbrev judged_as : Option ValType → ℕ → Result OperandStack BodyFault → Result OperandStack BodyFault
judged_as result at r = r >>= λ s. placed at (ended result s)

-- what is found of a body whose instructions leave these blocks
abbrev pub judged_by : Option ValType → ℕ → Result (List Level) BodyFault → Result OperandStack BodyFault
judged_by result at r = r >>= λ blocks. placed at (ended result (innermost blocks))

-- what is found at the end of a body needs no more than the operands of its block
unpacked : (result : Option ValType) (at : ℕ) (level : Level) (r : Result OperandStack BodyFault) → judged_as result at r ≡ judged_by result at (r >>= λ s. Ok (with_operands level s ∷ []))
unpacked result at level (Ok s) = refl
unpacked result at level (Err fault) = refl

-- the blocks behind the code of a body
pub body_runs : (C : Context) (c : Code) → HasPlainOps c
    → run C 0 (flat c) (begun levels.Block C.result ∷ []) ≡ (judge (in_body C) 0 0 c no_operands >>= λ s. Ok (with_operands (begun levels.Block C.result) s ∷ []))
unfolding run
body_runs C c p =
    ap (λ (ops : List Op). run C 0 ops (begun levels.Block C.result ∷ [])) (sym (append-nil (flat c)))
    ∙ reads c C 0 (size c) (begun levels.Block C.result) [] [] no_operands (omega arith) p

-- the same behind its `end`, which leaves the outermost block as it is
pub ended_body_runs : (C : Context) (c : Code) → HasPlainOps c
    → run C 0 (flat c ++ (op.End ∷ [])) (begun levels.Block C.result ∷ []) ≡ (judge (in_body C) 0 0 c no_operands >>= λ s. Ok (with_operands (begun levels.Block C.result) s ∷ []))
unfolding run
ended_body_runs C c p = reads c C 0 (size c) (begun levels.Block C.result) [] (op.End ∷ []) no_operands (omega arith) p

-- what is found of a body follows from the blocks behind its instructions
pub judged_runs : (C : Context) (c : Code) → HasPlainOps c → judged (in_body C) c ≡ judged_by C.result (size c) (run C 0 (flat c) (begun levels.Block C.result ∷ []))
unfolding judged
judged_runs C c p =
    unpacked C.result (size c) (begun levels.Block C.result) (judge (in_body C) 0 0 c no_operands)
    ∙ ap (judged_by C.result (size c)) (sym (body_runs C c p))

-- the same with its `end`
pub judged_runs_ended : (C : Context) (c : Code) → HasPlainOps c → judged (in_body C) c ≡ judged_by C.result (size c) (run C 0 (flat c ++ (op.End ∷ [])) (begun levels.Block C.result ∷ []))
unfolding judged
judged_runs_ended C c p =
    unpacked C.result (size c) (begun levels.Block C.result) (judge (in_body C) 0 0 c no_operands)
    ∙ ap (judged_by C.result (size c)) (sym (ended_body_runs C c p))

-- the same instructions have one verdict
pub verdicts : (C : Context) (c d : Code) → HasPlainOps c → HasPlainOps d → flat c ≡ flat d → judged (in_body C) c ≡ judged (in_body C) d
verdicts C c d p q e =
    judged_runs C c p
    ∙ (ap (λ (ops : List Op). judged_by C.result (length ops) (run C 0 ops (begun levels.Block C.result ∷ []))) e
    ∙ sym (judged_runs C d q))

-- ---- one fault

-- the instructions of a body nest as one list
same_flat : (ops : List Op) (c d : Code) → IsNestedAs ops c → IsNestedAs ops d → flat c ≡ flat d
same_flat ops c d h k = append_cancel_right (flat c) (flat d) (op.End ∷ []) (sym h.1 ∙ k.1)

-- a body has one verdict
pub one_verdict : {raw : RawModule} {type_index : ℕ} {body : Body} {v w : Result OperandStack BodyFault} → IsJudged raw type_index body v → IsJudged raw type_index body w → v ≡ w
one_verdict {raw = raw} {body = body} h k =
    let same : h.func_type ≡ k.func_type = same_Some h.func_type k.func_type (sym h.has_type ∙ k.has_type) in
    sym h.verdict_is
    ∙ (verdicts (body_context raw h.func_type body) h.code k.code h.nested.0 k.nested.0 (same_flat body.code h.code k.code h.nested k.nested)
    ∙ (ap (λ (f : FuncType). judged (body_context raw f body) k.code) same
    ∙ k.verdict_is))

-- what holds of two lists, place by place, holds at a place
at_place : {A B : Type 0} (R : A → B → Type 0) (xs : List A) (ys : List B) (i : ℕ) (x : A) (y : B) → AllZip R xs ys → slice_get xs i ≡ Some x → slice_get ys i ≡ Some y → R x y
at_place R [] ys i x y h e f = absurd cc
at_place R (z ∷ xs) [] i x y h e f = absurd cc
at_place R (z ∷ xs) (w ∷ ys) zero x y h e f = subst (λ a. R a y) (same_Some z x e) (subst (λ b. R z b) (same_Some w y f) h.0)
at_place R (z ∷ xs) (w ∷ ys) (suc i) x y h e f = at_place R xs ys i x y h.1 e f

-- an item in front of a place
before : {A : Type 0} (xs : List A) (n i : ℕ) → i < n → slice_get (take n xs) i ≡ slice_get xs i
before xs zero i h = absurd (omega (arith, h))
before [] (suc n) i h = refl
before (x ∷ xs) (suc n) zero h = refl
before (x ∷ xs) (suc n) (suc i) h = before xs n i (omega (arith, h))

-- a body that is valid has no fault
no_fault_in : {raw : RawModule} {type_index : ℕ} {body : Body} {fault : BodyFault} → IsValidBody raw type_index body → IsJudged raw type_index body (Err fault) → ⊥
no_fault_in {fault = fault} h k =
    let same : ◌≡◌ {A = Result OperandStack BodyFault} (Ok h.0) (Err fault) = one_verdict h.1 k in
    absurd cc

-- a valid module has no fault
pub none_beside : {raw : RawModule} {fault : CheckFault} → IsValid raw → IsFirstFault raw fault → ⊥
none_beside {fault = fault} valid (of_module is function position) = none-some fault.kind (sym valid.parts ∙ is)
none_beside {raw = raw} {fault = fault} valid (of_body h) =
    no_fault_in (at_place (IsValidBody raw) raw.functions raw.bodies fault.function h.type_index h.body valid.bodies h.function_is h.body_is) h.verdict

-- no body with a fault stands before the first
not_before : {raw : RawModule} {f g : CheckFault} → IsBodyFault raw f → IsBodyFault raw g → f.function < g.function → ⊥
not_before {raw = raw} {f = f} {g = g} h k less =
    no_fault_in (at_place (IsValidBody raw) (take g.function raw.functions) (take g.function raw.bodies) f.function h.type_index h.body k.earlier
    (before raw.functions g.function f.function less ∙ h.function_is) (before raw.bodies g.function f.function less ∙ h.body_is)) h.verdict

-- faults with the same parts are one
same_fault : (f g : CheckFault) → f.function ≡ g.function → f.position ≡ g.position → f.kind ≡ g.kind → f ≡ g
same_fault f g a b c =
    ap (λ (n : ℕ). let fault : CheckFault = record { function = n; position = f.position; kind = f.kind } in fault) a
    ∙ (ap (λ (n : ℕ). let fault : CheckFault = record { function = g.function; position = n; kind = f.kind } in fault) b
    ∙ ap (λ (kind : CheckKind). let fault : CheckFault = record { function = g.function; position = g.position; kind = kind } in fault) c)

-- the fault of a verdict, where it has one
abbrev fault_or : BodyFault → Result OperandStack BodyFault → BodyFault
fault_or other (Ok s) = other
fault_or other (Err fault) = fault

-- one body has one fault
same_body_fault : (raw : RawModule) (f g : CheckFault) → IsBodyFault raw f → IsBodyFault raw g → f.function ≡ g.function → f ≡ g
same_body_fault raw f g h k same =
    let first : BodyFault = record { position = f.position; kind = f.kind } in
    let second : BodyFault = record { position = g.position; kind = g.kind } in
    let indexes : h.type_index ≡ k.type_index = same_Some h.type_index k.type_index (sym h.function_is ∙ (ap (slice_get raw.functions) same ∙ k.function_is)) in
    let bodies : h.body ≡ k.body = same_Some h.body k.body (sym h.body_is ∙ (ap (slice_get raw.bodies) same ∙ k.body_is)) in
    let moved : IsJudged raw k.type_index k.body (Err first) =
    subst (λ (b : Body). IsJudged raw k.type_index b (Err first)) bodies (subst (λ (i : ℕ). IsJudged raw i h.body (Err first)) indexes h.verdict) in
    let verdict : first ≡ second = ap (fault_or first) (one_verdict moved k.verdict) in
    same_fault f g same (ap (λ (b : BodyFault). b.position) verdict) (ap (λ (b : BodyFault). b.kind) verdict)

-- a module has one first fault
pub one_fault : (raw : RawModule) (f g : CheckFault) → IsFirstFault raw f → IsFirstFault raw g → f ≡ g
one_fault raw f g (of_module is function position) (of_module other where_else elsewhere) =
    same_fault f g (function ∙ sym where_else) (position ∙ sym elsewhere) (same_Some f.kind g.kind (sym is ∙ other))
one_fault raw f g (of_module is function position) (of_body k) = absurd (none-some f.kind (sym k.parts ∙ is))
one_fault raw f g (of_body h) (of_module is function position) = absurd (none-some g.kind (sym h.parts ∙ is))
one_fault raw f g (of_body h) (of_body k) =
    elim (cases_order f.function g.function) [
      | inl same ↦ same_body_fault raw f g h k same
      | inr differs ↦ elim differs [
        | inl less ↦ absurd (not_before h k less)
        | inr more ↦ absurd (not_before k h more)
      ]
    ]
