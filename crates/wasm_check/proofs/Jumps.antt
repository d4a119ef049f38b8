-- What labels ask for, and what an instruction that jumps to one of several does.
use Rattle.std.proofs.Common.{◌≡◌, ℕ, ◌≤◌, nat_lt, Bool, true, List, [], ◌∷◌, ◌++◌, length, map, get_or, slice_get, Option, Some, None, Result, Ok, Err, ok_or, inl, inr, refl, sym, ap, ◌∙◌}
use Rattle.std.specs.Prelude.{is_ok, option_to_list}
use Rattle.std.specs.List.{list_all}
use Rattle.std.proofs.lemmas.Bool.{le-ltb, lt-ltb}
use Rattle.std.proofs.lemmas.List.{get_or_past}
use Rattle.std.proofs.lemmas.Option.{get_or_from_slice_get, none-some, slice_get_cases, slice_get_within}
use Rattle.wasm_types.specs.declared.val_type.ValType.{ValType}
use Rattle.wasm_types.specs.declared.val_type.ValType.TheVariants.{I32}
use Rattle.wasm_types.specs.declared.op.Op.TheVariants as op
use Rattle.wasm_types.specs.Signatures.{is_same_result}
use Rattle.wasm_check.specs.declared.fault.CheckKind.{CheckKind}
use Rattle.wasm_check.specs.declared.fault.CheckKind.TheVariants as kinds
use Rattle.wasm_check.specs.declared.levels.Level.{Level}
use Rattle.wasm_check.specs.Effects.{Context, leaves}
use Rattle.wasm_check.specs.Machine.{acted, effected, label_of}

-- ---- one label

-- an item is there if and only if its place is below how many there are
pub there_is : {X E : Type 0} (xs : List X) (i : ℕ) (fault : E) → is_ok (ok_or (slice_get xs i) fault) ≡ nat_lt i (length xs)
there_is {X = X} xs i fault = elim (slice_get_cases xs i).1 [
  | inl w ↦ ap (λ (o : Option X). is_ok (ok_or o fault)) w.2 ∙ sym (lt-ltb i (length xs) w.1)
  | inr w ↦ ap (λ (o : Option X). is_ok (ok_or o fault)) w.1 ∙ sym (le-ltb i (length xs) w.0)
]

-- where something is missing, the fault is the one that was to be given
no_item : {X E : Type 0} (o : Option X) (kind fault : E) → ◌≡◌ {A = Result X E} (Err kind) (ok_or o fault) → (o ≡ None) × (kind ≡ fault)
no_item None kind fault e = (refl, cc)
no_item (Some x) kind fault e = (cc, cc)

-- what was found is there
an_item : {X E : Type 0} (o : Option X) (x : X) (fault : E) → ◌≡◌ {A = Result X E} (Ok x) (ok_or o fault) → o ≡ Some x
an_item None x fault e = cc
an_item (Some y) x fault e = cc

-- a place where nothing is lies past the end
past_end : {X : Type 0} (xs : List X) (i : ℕ) → slice_get xs i ≡ None → length xs ≤ i
past_end xs i e = elim (slice_get_cases xs i).1 [ inl w ↦ absurd (none-some w.0 (sym e ∙ w.2)) | inr w ↦ w.0 ]

-- a label that is not there asks for nothing
pub asks_nothing : (asked : List (Option ValType)) (label : ℕ) (kind : CheckKind) → ◌≡◌ {A = Result (Option ValType) CheckKind} (Err kind) (ok_or (slice_get asked label) kinds.Label)
    → get_or asked label None ≡ None
asks_nothing asked label kind e = get_or_past asked label None (past_end asked label (no_item (slice_get asked label) kind kinds.Label e).0)

-- ---- one of several labels

-- the labels are all there
abbrev pub are_there : List Level → List ℕ → Bool
are_there blocks labels = list_all (λ label. nat_lt label (length (map label_of blocks))) labels

-- the labels all ask for this
abbrev pub all_ask : List Level → List ℕ → Option ValType → Bool
all_ask blocks labels wanted = list_all (λ label. is_same_result (get_or (map label_of blocks) label None) wanted) labels

-- the default label asks for this
abbrev pub Asks : List Level → ℕ → Option ValType → Type 0
Asks blocks default wanted = ◌≡◌ {A = Result (Option ValType) CheckKind} (Ok wanted) (ok_or (slice_get (map label_of blocks) default) kinds.Label)

-- the default label is there
is_there : (blocks : List Level) (default : ℕ) (wanted : Option ValType) → Asks blocks default wanted → nat_lt default (length (map label_of blocks)) ≡ true
is_there blocks default wanted e =
    lt-ltb default (length (map label_of blocks)) (slice_get_within (map label_of blocks) default wanted (an_item (slice_get (map label_of blocks) default) wanted kinds.Label e))

-- and asks for what it was found to ask for
asks_this : (blocks : List Level) (default : ℕ) (wanted : Option ValType) → Asks blocks default wanted → get_or (map label_of blocks) default None ≡ wanted
asks_this blocks default wanted e =
    get_or_from_slice_get (map label_of blocks) default wanted None (an_item (slice_get (map label_of blocks) default) wanted kinds.Label e)

-- they all ask for the same
pub all_agree : (C : Context) (blocks : List Level) (default : ℕ) (labels : List ℕ) (wanted : Option ValType)
    → Asks blocks default wanted → are_there blocks labels ≡ true → all_ask blocks labels wanted ≡ true
    → effected C (op.BrTable default labels) blocks ≡ acted (leaves (option_to_list wanted ++ (I32 ∷ []))) blocks
all_agree C blocks default labels wanted asks there same =
    let here = is_there blocks default wanted asks in
    let this = asks_this blocks default wanted asks in
    rw (here, there, this, same) refl
