-- Instructions nest in one way.
use Rattle.std.proofs.Common.{◌≡◌, true, List, [], ◌∷◌, ◌++◌, Option, refl, sym, ap, ◌∙◌, append_assoc}
use Rattle.std.proofs.lemmas.Bool.{false≢true}
use Rattle.wasm_types.specs.declared.val_type.ValType.{ValType}
use Rattle.wasm_types.specs.declared.op.Op.{Op}
use Rattle.wasm_types.specs.declared.op.Op.TheVariants as op
use Rattle.wasm_check.specs.Code.{Code, HasPlainOps, IsNestedAs, done, flat, in_block, in_if, in_if_else, in_loop, is_plain, plain}

-- what an instruction is in the nesting of blocks: it ends a part of one, stands by itself, or begins a block
data Begin : Type 0 where
  ending : Begin
  single : Begin
  of_block : Begin
  of_loop : Begin
  of_if : Begin

-- what an instruction is
abbrev begins : Op → Begin
begins (op.Block result) = of_block
begins (op.Loop result) = of_loop
begins (op.If result) = of_if
begins op.Else = ending
begins op.End = ending
begins o = single

-- what the first of some instructions is
abbrev first_begins : List Op → Begin
first_begins [] = ending
first_begins (o ∷ ops) = begins o

-- what code begins with
abbrev begins_code : Code → Begin
begins_code done = ending
begins_code (plain o rest) = single
begins_code (in_block result body rest) = of_block
begins_code (in_loop result body rest) = of_loop
begins_code (in_if result body rest) = of_if
begins_code (in_if_else result first second rest) = of_if

-- a plain one stands by itself
plain_begins : (o : Op) → is_plain o ≡ true → begins o ≡ single
plain_begins (op.Block result) e = absurd (false≢true e)
plain_begins (op.Loop result) e = absurd (false≢true e)
plain_begins (op.If result) e = absurd (false≢true e)
plain_begins op.Else e = absurd (false≢true e)
plain_begins op.End e = absurd (false≢true e)
plain_begins o e = refl

-- instructions of code, with an `else` or an `end` behind them, begin as the code does
code_begins : (a : Code) (x : Op) (r : List Op) → HasPlainOps a → begins x ≡ ending → first_begins (flat a ++ x ∷ r) ≡ begins_code a
code_begins done x r h e = e
code_begins (plain o rest) x r h e = plain_begins o h.0
code_begins (in_block result body rest) x r h e = refl
code_begins (in_loop result body rest) x r h e = refl
code_begins (in_if result body rest) x r h e = refl
code_begins (in_if_else result first second rest) x r h e = refl

-- the parts of lists that are one
same_head : (x y : Op) (r q : List Op) → x ∷ r ≡ y ∷ q → (x ≡ y) × (r ≡ q)
same_head x y r q e = (cc, cc)

-- a block has one result
block_result : (r s : Option ValType) → ◌≡◌ {A = Op} (op.Block r) (op.Block s) → r ≡ s
block_result r s e = cc

-- so has a loop
loop_result : (r s : Option ValType) → ◌≡◌ {A = Op} (op.Loop r) (op.Loop s) → r ≡ s
loop_result r s e = cc

-- so has an `if`
if_result : (r s : Option ValType) → ◌≡◌ {A = Op} (op.If r) (op.If s) → r ≡ s
if_result r s e = cc

-- an `end` is no `else`
end_is_no_else : ◌≡◌ {A = Op} op.End op.Else → ⊥
end_is_no_else e = absurd cc

-- codes whose instructions are the same begin with the same
same_begins : (a b : Code) (x y : Op) (r q : List Op) → HasPlainOps a → HasPlainOps b → begins x ≡ ending → begins y ≡ ending → flat a ++ x ∷ r ≡ flat b ++ y ∷ q → begins_code a ≡ begins_code b
same_begins a b x y r q ha hb ex ey e = sym (code_begins a x r ha ex) ∙ (ap first_begins e ∙ code_begins b y q hb ey)

-- a part of a block, and all that is behind it
apart : (u v : List Op) (x y : Op) (m n w z : List Op) → (u ++ x ∷ m) ++ w ≡ (v ++ y ∷ n) ++ z → u ++ x ∷ (m ++ w) ≡ v ++ y ∷ (n ++ z)
apart u v x y m n w z e = sym (append_assoc u (x ∷ m) w) ∙ (e ∙ append_assoc v (y ∷ n) z)

-- instructions that are the same are of one code, with the same behind it
same_code : (a b : Code) (x y : Op) (r q : List Op) → HasPlainOps a → HasPlainOps b → begins x ≡ ending → begins y ≡ ending → begins_code a ≡ begins_code b → flat a ++ x ∷ r ≡ flat b ++ y ∷ q
    → (a ≡ b) × (x ≡ y) × (r ≡ q)
same_code done done x y r q ha hb ex ey k e = let h = same_head x y r q e in (refl, h.0, h.1)
same_code (plain o rest) (plain p more) x y r q ha hb ex ey k e =
    let h = same_head o p (flat rest ++ x ∷ r) (flat more ++ y ∷ q) e in
    let later = same_code rest more x y r q ha.1 hb.1 ex ey (same_begins rest more x y r q ha.1 hb.1 ex ey h.1) h.1 in
    (ap (λ (o : Op). plain o rest) h.0 ∙ ap (λ (c : Code). plain p c) later.0, later.1, later.2)
same_code (in_block result body rest) (in_block gives inner more) x y r q ha hb ex ey k e =
    let h = same_head (op.Block result) (op.Block gives) ((flat body ++ op.End ∷ flat rest) ++ x ∷ r) ((flat inner ++ op.End ∷ flat more) ++ y ∷ q) e in
    let parts = apart (flat body) (flat inner) op.End op.End (flat rest) (flat more) (x ∷ r) (y ∷ q) h.1 in
    let one = same_code body inner op.End op.End (flat rest ++ x ∷ r) (flat more ++ y ∷ q) ha.0 hb.0 refl refl (same_begins body inner op.End op.End (flat rest ++ x ∷ r) (flat more ++ y ∷ q) ha.0 hb.0 refl refl parts) parts in
    let later = same_code rest more x y r q ha.1 hb.1 ex ey (same_begins rest more x y r q ha.1 hb.1 ex ey one.2) one.2 in
    (ap (λ (t : Option ValType). in_block t body rest) (block_result result gives h.0) ∙ (ap (λ (c : Code). in_block gives c rest) one.0 ∙ ap (λ (c : Code). in_block gives inner c) later.0), later.1, later.2)
same_code (in_loop result body rest) (in_loop gives inner more) x y r q ha hb ex ey k e =
    let h = same_head (op.Loop result) (op.Loop gives) ((flat body ++ op.End ∷ flat rest) ++ x ∷ r) ((flat inner ++ op.End ∷ flat more) ++ y ∷ q) e in
    let parts = apart (flat body) (flat inner) op.End op.End (flat rest) (flat more) (x ∷ r) (y ∷ q) h.1 in
    let one = same_code body inner op.End op.End (flat rest ++ x ∷ r) (flat more ++ y ∷ q) ha.0 hb.0 refl refl (same_begins body inner op.End op.End (flat rest ++ x ∷ r) (flat more ++ y ∷ q) ha.0 hb.0 refl refl parts) parts in
    let later = same_code rest more x y r q ha.1 hb.1 ex ey (same_begins rest more x y r q ha.1 hb.1 ex ey one.2) one.2 in
    (ap (λ (t : Option ValType). in_loop t body rest) (loop_result result gives h.0) ∙ (ap (λ (c : Code). in_loop gives c rest) one.0 ∙ ap (λ (c : Code). in_loop gives inner c) later.0), later.1, later.2)
same_code (in_if result body rest) (in_if gives inner more) x y r q ha hb ex ey k e =
    let h = same_head (op.If result) (op.If gives) ((flat body ++ op.End ∷ flat rest) ++ x ∷ r) ((flat inner ++ op.End ∷ flat more) ++ y ∷ q) e in
    let parts = apart (flat body) (flat inner) op.End op.End (flat rest) (flat more) (x ∷ r) (y ∷ q) h.1 in
    let one = same_code body inner op.End op.End (flat rest ++ x ∷ r) (flat more ++ y ∷ q) ha.0 hb.0 refl refl (same_begins body inner op.End op.End (flat rest ++ x ∷ r) (flat more ++ y ∷ q) ha.0 hb.0 refl refl parts) parts in
    let later = same_code rest more x y r q ha.1 hb.1 ex ey (same_begins rest more x y r q ha.1 hb.1 ex ey one.2) one.2 in
    (ap (λ (t : Option ValType). in_if t body rest) (if_result result gives h.0) ∙ (ap (λ (c : Code). in_if gives c rest) one.0 ∙ ap (λ (c : Code). in_if gives inner c) later.0), later.1, later.2)
same_code (in_if result body rest) (in_if_else gives first second more) x y r q ha hb ex ey k e =
    let h = same_head (op.If result) (op.If gives) ((flat body ++ op.End ∷ flat rest) ++ x ∷ r) ((flat first ++ op.Else ∷ (flat second ++ op.End ∷ flat more)) ++ y ∷ q) e in
    let parts = apart (flat body) (flat first) op.End op.Else (flat rest) (flat second ++ op.End ∷ flat more) (x ∷ r) (y ∷ q) h.1 in
    let one = same_code body first op.End op.Else (flat rest ++ x ∷ r) ((flat second ++ op.End ∷ flat more) ++ y ∷ q) ha.0 hb.0 refl refl (same_begins body first op.End op.Else (flat rest ++ x ∷ r) ((flat second ++ op.End ∷ flat more) ++ y ∷ q) ha.0 hb.0 refl refl parts) parts in
    absurd (end_is_no_else one.1)
same_code (in_if_else result first second rest) (in_if gives body more) x y r q ha hb ex ey k e =
    let h = same_head (op.If result) (op.If gives) ((flat first ++ op.Else ∷ (flat second ++ op.End ∷ flat rest)) ++ x ∷ r) ((flat body ++ op.End ∷ flat more) ++ y ∷ q) e in
    let parts = apart (flat first) (flat body) op.Else op.End (flat second ++ op.End ∷ flat rest) (flat more) (x ∷ r) (y ∷ q) h.1 in
    let one = same_code first body op.Else op.End ((flat second ++ op.End ∷ flat rest) ++ x ∷ r) (flat more ++ y ∷ q) ha.0 hb.0 refl refl (same_begins first body op.Else op.End ((flat second ++ op.End ∷ flat rest) ++ x ∷ r) (flat more ++ y ∷ q) ha.0 hb.0 refl refl parts) parts in
    absurd (end_is_no_else (sym one.1))
same_code (in_if_else result first second rest) (in_if_else gives one two more) x y r q ha hb ex ey k e =
    let h = same_head (op.If result) (op.If gives) ((flat first ++ op.Else ∷ (flat second ++ op.End ∷ flat rest)) ++ x ∷ r) ((flat one ++ op.Else ∷ (flat two ++ op.End ∷ flat more)) ++ y ∷ q) e in
    let parts = apart (flat first) (flat one) op.Else op.Else (flat second ++ op.End ∷ flat rest) (flat two ++ op.End ∷ flat more) (x ∷ r) (y ∷ q) h.1 in
    let front = same_code first one op.Else op.Else ((flat second ++ op.End ∷ flat rest) ++ x ∷ r) ((flat two ++ op.End ∷ flat more) ++ y ∷ q) ha.0 hb.0 refl refl (same_begins first one op.Else op.Else ((flat second ++ op.End ∷ flat rest) ++ x ∷ r) ((flat two ++ op.End ∷ flat more) ++ y ∷ q) ha.0 hb.0 refl refl parts) parts in
    let others = apart (flat second) (flat two) op.End op.End (flat rest) (flat more) (x ∷ r) (y ∷ q) front.2 in
    let back = same_code second two op.End op.End (flat rest ++ x ∷ r) (flat more ++ y ∷ q) ha.1 hb.1 refl refl (same_begins second two op.End op.End (flat rest ++ x ∷ r) (flat more ++ y ∷ q) ha.1 hb.1 refl refl others) others in
    let later = same_code rest more x y r q ha.2 hb.2 ex ey (same_begins rest more x y r q ha.2 hb.2 ex ey back.2) back.2 in (
      ap (λ (t : Option ValType). in_if_else t first second rest) (if_result result gives h.0)
          ∙ (ap (λ (c : Code). in_if_else gives c second rest) front.0 ∙ (ap (λ (c : Code). in_if_else gives one c rest) back.0 ∙ ap (λ (c : Code). in_if_else gives one two c) later.0)),
      later.1,
      later.2,
    )
same_code _ _ x y r q ha hb ex ey k e = absurd cc

-- instructions are the code of one body at most
pub one_nesting : (ops : List Op) (a b : Code) → IsNestedAs ops a → IsNestedAs ops b → a ≡ b
one_nesting ops a b first second =
    let e = sym first.1 ∙ second.1 in
    (same_code a b op.End op.End [] [] first.0 second.0 refl refl (same_begins a b op.End op.End [] [] first.0 second.0 refl refl e) e).0
