-- A module that bytes spell can be checked.
use Rattle.std.proofs.Common.{◌≡◌, ℕ, zero, suc, ◌<◌, ◌≤◌, ◌⊎◌, List, [], ◌∷◌, length, ◌-◌, ◌^◌, inl, inr, sym, ap, subst, arith}
use Rattle.std.specs.List.{All}
use Rattle.std.proofs.lemmas.List.{length-append}
use Rattle.std.proofs.lemmas.Option.{slice_get_within}
use Rattle.wasm_types.specs.declared.limits.TheConstants.{MOST_FUNCTIONS, MOST_MODULE_BYTES}
use Rattle.wasm_types.specs.declared.op.Op.{Op}
use Rattle.wasm_types.specs.declared.raw_module.Body.{Body}
use Rattle.wasm_types.specs.declared.raw_module.Import.{Import}
use Rattle.wasm_types.specs.declared.raw_module.RawModule.{RawModule}
use Rattle.wasm_types.specs.Opcodes.{Code, byte, prefixed, code_of}
use Rattle.wasm_types.specs.Ops.{opcode_of}
use Rattle.wasm_decode.specs.Instructions.{SpellsCode, SpellsExpression, SpellsInstruction}
use Rattle.wasm_decode.specs.Layout.{◌⨾◌, Just, SpellsAll, SpellsSized, SpellsVectorUpTo}
use Rattle.wasm_decode.specs.Modules.{SpellsBody, SpellsImport, SpellsModule, SpellsRows, SpellsSection, SpellsSections, magic, version}
use Rattle.wasm_check.specs.Readable.{HasImportType, IsReadable, IsReadableBody}
use Rattle.wasm_check.proofs.Nested.{nested_code}

-- ---- parts of bytes

-- bytes that are laid out so, of which there are at most so many
record Within (most : ℕ) (Laid : List ℕ → Type 0) : Type 0 where
  bytes : List ℕ
  few : length bytes ≤ most
  laid : Laid bytes

-- bytes with what is known of them
whole : {most : ℕ} {Laid : List ℕ → Type 0} (bytes : List ℕ) → length bytes ≤ most → Laid bytes → Within most Laid
whole bytes few laid = record { bytes = bytes; few = few; laid = laid }

-- the first of two parts
first : {most : ℕ} {First Second : List ℕ → Type 0} → Within most (First ⨾ Second) → Within most First
first h = record { bytes = h.laid.0; few = omega (arith, h.few, ap length h.laid.2, length-append h.laid.0 h.laid.1); laid = h.laid.3 }

-- the second
second : {most : ℕ} {First Second : List ℕ → Type 0} → Within most (First ⨾ Second) → Within most Second
second h = record { bytes = h.laid.1; few = omega (arith, h.few, ap length h.laid.2, length-append h.laid.0 h.laid.1); laid = h.laid.4 }

-- content behind its size
content : {most : ℕ} {Content : List ℕ → Type 0} → Within most (SpellsSized Content) → Within most Content
content h =
    let sized = h.laid.2 in
    record { bytes = h.laid.0; few = omega (arith, h.few, ap length sized.2, length-append sized.0 sized.1, ap length sized.4); laid = h.laid.1 }

-- ---- rows of a section

-- what holds of an item and of those behind it holds of all
every : {A : Type 0} (P : A → Type 0) (x : A) (xs : List A) → P x → All P xs → All P (x ∷ xs)
every P x xs p h zero d less = p
every P x xs p h (suc k) d less = h k d (omega (arith, less))

-- what holds of each item that is spelled holds of all
all_items : {A : Type 0} (most : ℕ) (Item : A → List ℕ → Type 0) (P : A → Type 0) → ((x : A) → Within most (Item x) → P x) → (xs : List A) → Within most (SpellsAll Item xs) → All P xs
all_items most Item P each [] h = λ k d less. absurd (omega (arith, less))
all_items most Item P each (x ∷ xs) h = every P x xs (each x (first h)) (all_items most Item P each xs (second h))

-- the content of a section, if it is there
present : (most number : ℕ) (Content : List ℕ → Type 0) (Absent : Type 0) → Within most (SpellsSection number Content Absent) → Absent ⊎ Within most Content
present most number Content Absent h =
    let section : Within most (λ bytes. ((bytes ≡ []) × Absent) ⊎ (Just (number ∷ []) ⨾ SpellsSized Content) bytes) = second h in
    elim section.laid [
      | inl none ↦ inl none.1
      | inr there ↦ inr (content (numbered section.bytes section.few there))
    ]
  where
    numbered : (bytes : List ℕ) → length bytes ≤ most → (Just (number ∷ []) ⨾ SpellsSized Content) bytes → Within most (SpellsSized Content)
    numbered bytes few there = second (whole bytes few there)

-- the rows of a section
rows : {A : Type 0} (most number count : ℕ) (Item : A → List ℕ → Type 0) (P : A → Type 0) → ((x : A) → Within most (Item x) → P x) → (xs : List A) → Within most (SpellsRows number count Item xs) → (length xs ≤ count) × All P xs
rows {A = A} most number count Item P each xs h =
    elim (present most number (SpellsVectorUpTo count Item xs) (xs ≡ []) h) [
      | inl none ↦ subst (λ (ys : List A). (length ys ≤ count) × All P ys) (sym none) (omega arith, λ k d less. absurd (omega (arith, less)))
      | inr there ↦ (there.laid.0, all_items most Item P each xs (second (whole there.bytes there.few there.laid.1)))
    ]

-- ---- bodies

-- an opcode is at least a byte
some_bytes : (code : Code) (bytes : List ℕ) → SpellsCode code bytes → 0 < length bytes
some_bytes (byte b) bytes h = omega (arith, ap length h)
some_bytes (prefixed n) bytes h = omega (arith, ap length h.2, length-append h.0 h.1, ap length h.3)

-- instructions are at most as many as their bytes
fewer : (ops : List Op) (bytes : List ℕ) → SpellsAll SpellsInstruction ops bytes → length ops ≤ length bytes
fewer [] bytes h = omega arith
fewer (o ∷ ops) bytes h =
    let one = h.3 in
    omega (arith, ap length h.2, length-append h.0 h.1, fewer ops h.1 h.4, ap length one.2, length-append one.0 one.1, some_bytes (code_of (opcode_of o)) one.0 one.3)

-- a body whose bytes are part of a module's
readable_body : (body : Body) → Within MOST_MODULE_BYTES (SpellsBody body) → IsReadableBody body
readable_body body h =
    let code : Within MOST_MODULE_BYTES (SpellsExpression body.code) = second (content h) in
    let nested = nested_code body.code code.laid.0 in
    record { code = nested.0; nested = nested.1; small = at_most (fewer body.code code.bytes code.laid.1) code.few }
  where
    at_most : {n m most : ℕ} → n ≤ m → m ≤ most → n ≤ most
    at_most h k = omega (arith, h, k)

-- an import has its type
import_has_type : (raw : RawModule) (i : Import) → Within MOST_MODULE_BYTES (SpellsImport raw.types i) → HasImportType raw i
import_has_type raw i h = slice_get_within raw.types i.type_index h.laid.0.typing h.laid.2

-- ---- modules

-- a module that bytes spell can be checked
pub readable : (bytes : List ℕ) (raw : RawModule) → SpellsModule bytes raw → IsReadable raw
readable bytes raw m =
    let types = second (second (whole {Laid = Just magic ⨾ (Just version ⨾ SpellsSections raw m.count)} bytes m.small m.spelled)) in
    let imports = second types in
    let functions = second imports in
    let tables = second functions in
    let memories = second tables in
    let globals = second memories in
    let exports = second globals in
    let elements = second exports in
    let count = second elements in
    let bodies = second count in
    let each = rows MOST_MODULE_BYTES 10 MOST_FUNCTIONS SpellsBody IsReadableBody readable_body raw.bodies (first bodies) in
    let typed = rows MOST_MODULE_BYTES 2 (2 ^ 32 - 1) (SpellsImport raw.types) (HasImportType raw) (import_has_type raw) raw.imports (first imports) in
    record { paired = sym m.paired; few = each.0; bodies = each.1; imports = typed.1 }
