-- Sections by how they begin.
use Rattle.std.specs.Prelude.{ℕ, List, [], ◌∷◌, length, ◌==◌, if◌then◌else◌, Result, Ok}
use Rattle.wasm_decode.specs.declared.fault.Stop.{Stop}
use Rattle.wasm_decode.specs.declared.fault.Stop.TheVariants.{Short, Flaw}
use Rattle.wasm_decode.specs.declared.fault.WasmKind.TheVariants as kinds
use Rattle.wasm_decode.specs.declared.section.Opening.{Opening as OpeningOfCode}
use Rattle.wasm_decode.specs.declared.section.Opening.TheVariants.{Absent, Begun}
use Rattle.wasm_decode.specs.Parts.{part_of}
use Rattle.wasm_decode.specs.ReadingModule.{customs_at}
use Rattle.wasm_decode.specs.ReadingValues.{part_at}
use Rattle.wasm_decode.specs.Stops.{◌>>=◌, Found, Part, closed}

-- how a section stands behind custom ones: there is none and these bytes stand there, or it is this part
pub data Opening : Type 0 where
  absent : List ℕ → Opening
  begun : Part → Opening

-- the same without where it lies in memory
abbrev pub opening_seen : OpeningOfCode → Opening
opening_seen (Absent rest) = absent rest.now
opening_seen (Begun part) = begun (part_of part)

-- how the section of this number stands at the front
abbrev pub opening_here : ℕ → List ℕ → Result Opening Stop
opening_here number [] = Ok (absent [])
opening_here number (first ∷ rest) =
    if first == number then (part_at rest >>= λ part. Ok (begun part)) else Ok (absent (first ∷ rest))

-- the same behind custom sections
unfoldable pub opening_at : ℕ → List ℕ → Result Opening Stop
opening_at number bytes = customs_at bytes >>= opening_here number

-- what is read of such a section, and what stands for it where there is none
abbrev pub read_in : {A : Type 0} → A → (List ℕ → Found A) → Opening → Found A
read_in none content (absent rest) = Ok (none, rest)
read_in none content (begun part) = closed part (content part.content)

-- why reading stops where no section can stand, or one is missing
abbrev pub missing : List ℕ → Stop
missing [] = Short
missing (first ∷ rest) = Flaw (if first == 8 then kinds.Start else kinds.Form) (length (first ∷ rest))
