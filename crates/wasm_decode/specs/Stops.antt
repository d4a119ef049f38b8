-- Reading as functions on lists: from the front of a part of the bytes, a value and the rest of the part, or why there is
-- none.
use Rattle.std.specs.Prelude.{◌≡◌, ℕ, ◌+◌, ◌-◌, ◌^◌, List, [], ◌∷◌, length, min, Bool, if◌then◌else◌, Result, Ok, Err}
use Rattle.fil_base.specs.declared.failure.Failure.{Failure}
use Rattle.fil_base.specs.Failure.{IfFault}
use Rattle.wasm_decode.specs.declared.fault.Stop.{Stop}
use Rattle.wasm_decode.specs.declared.fault.Stop.TheVariants.{Short, Flaw}
use Rattle.wasm_decode.specs.declared.fault.WasmKind.{WasmKind}
use Rattle.wasm_decode.specs.declared.fault.WasmKind.TheVariants as kinds

-- a value and the rest, or why there is none
abbrev pub Found : Type 0 → Type 0
Found A = Result (A × List ℕ) Stop

-- one step of reading after another
infixl 10 ◌>>=◌
abbrev pub ◌>>=◌ : {A B : Type 0} → Result A Stop → (A → Result B Stop) → Result B Stop
(Ok x) >>= next = next x
(Err stop) >>= next = Err stop

-- a fault at the first of these bytes
abbrev pub refused : {A : Type 0} → WasmKind → List ℕ → Result A Stop
refused kind bytes = Err (Flaw kind (length bytes))

-- this, unless the test tells a fault at the first of these bytes
abbrev pub unless : {A : Type 0} → Bool → WasmKind → List ℕ → A → Result A Stop
unless test kind bytes x = if test then refused kind bytes else Ok x

-- a part that is to be read whole: the bytes of it that are there, those behind it, whether some of it are missing, and
-- how many bytes are left at its size, which stands before it
pub record Part : Type 0 where
  pub content : List ℕ
  pub behind : List ℕ
  pub is_cut : Bool
  pub left : ℕ

-- how many bytes are left at a place inside a part, as 64 bits tell it
abbrev pub left_around : Part → ℕ → ℕ
left_around part left = min (left + length part.behind) (2 ^ 64 - 1)

-- a part whose content is read: the rest behind it. A fault within it goes first; if it has none and does not end with
-- its last byte, its size is at fault. What is missing of it is missing in the bytes around it
abbrev pub closed : {A : Type 0} → Part → Found A → Found A
closed part (Ok (x, [])) = if part.is_cut then Err (Flaw kinds.Form part.left) else Ok (x, part.behind)
closed part (Ok (x, byte ∷ more)) = Err (Flaw kinds.Form part.left)
closed part (Err (Flaw kind left)) = Err (Flaw kind (left_around part left))
closed part (Err Short) = if part.is_cut then Err Short else Err (Flaw kinds.Form part.left)

-- what a function returned, seen by `view`, is what reading gives
abbrev pub Gives : {X Y : Type 0} → (X → Y) → Result X Stop → Result Y Stop → Type 0
Gives view (Ok x) read = read ≡ Ok (view x)
Gives view (Err stop) read = read ≡ Err stop

-- what a function returned, seen by `view`, is what reading gives, unless there was no memory
abbrev pub GivesOrNoMemory : {X Y : Type 0} → (X → Y) → Result X (Failure Stop) → Result Y Stop → Type 0
GivesOrNoMemory view (Ok x) read = read ≡ Ok (view x)
GivesOrNoMemory view (Err failure) read = IfFault failure (λ stop. read ≡ Err stop)
