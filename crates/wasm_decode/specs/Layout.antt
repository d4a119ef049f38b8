-- How bytes are laid out in parts (WebAssembly 1.0, sections 5.1 and 5.5.2).
use Rattle.std.specs.Prelude.{◌≡◌, ℕ, ◌≤◌, List, [], ◌∷◌, ◌++◌, length}
use Rattle.wasm_decode.specs.Values.{SpellsU32}

-- one part, and then another
infixr 6 ◌⨾◌
abbrev pub ◌⨾◌ : (List ℕ → Type 0) → (List ℕ → Type 0) → List ℕ → Type 0
(First ⨾ Second) bytes = (front : List ℕ) × (back : List ℕ) × (bytes ≡ front ++ back) × First front × Second back

-- just these bytes
abbrev pub Just : List ℕ → List ℕ → Type 0
Just these bytes = bytes ≡ these

-- some items, one after another
abbrev pub SpellsAll : {A : Type 0} → (A → List ℕ → Type 0) → List A → List ℕ → Type 0
SpellsAll Item [] bytes = bytes ≡ []
SpellsAll Item (x ∷ xs) bytes = (Item x ⨾ SpellsAll Item xs) bytes

-- a vector: some items behind their number
abbrev pub SpellsVector : {A : Type 0} → (A → List ℕ → Type 0) → List A → List ℕ → Type 0
SpellsVector Item xs = SpellsU32 (length xs) ⨾ SpellsAll Item xs

-- a vector of at most so many items
abbrev pub SpellsVectorUpTo : {A : Type 0} → ℕ → (A → List ℕ → Type 0) → List A → List ℕ → Type 0
SpellsVectorUpTo most Item xs bytes = (length xs ≤ most) × SpellsVector Item xs bytes

-- content behind its size
abbrev pub SpellsSized : (List ℕ → Type 0) → List ℕ → Type 0
SpellsSized Content bytes = (content : List ℕ) × Content content × (SpellsU32 (length content) ⨾ Just content) bytes
