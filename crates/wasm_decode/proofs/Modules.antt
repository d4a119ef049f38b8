-- Reading modules from their first sections on.
use Rattle.std.proofs.Common.{◌≡◌, ℕ, ◌<◌, Bool, if◌then◌else◌, ◌==◌, List, [], ◌∷◌, length, Result, Ok, Err, refl, sym, ap, ◌∙◌, arith}
use Rattle.std.proofs.lemmas.Bool.{eq-eqb, ne_eqb}
use Rattle.wasm_decode.specs.declared.fault.Stop.{Stop}
use Rattle.wasm_decode.specs.declared.fault.WasmKind.TheVariants as kinds
use Rattle.wasm_decode.specs.Modules.{magic, version}
use Rattle.wasm_decode.specs.ModuleTails.{behind_header_at, end_at}
use Rattle.wasm_decode.specs.Openings.{missing}
use Rattle.wasm_decode.specs.ReadingModule.{customs_at, module_at, nothing_more}
use Rattle.wasm_decode.specs.ReadingValues.{byte_at, just_at}
use Rattle.wasm_decode.specs.Stops.{◌>>=◌, Found, refused}

-- a module behind its header
module_is : (bytes : List ℕ) → module_at bytes ≡ (just_at bytes magic bytes >>= λ header. just_at header version header >>= behind_header_at)
unfolding module_at
module_is bytes = refl

pub no_magic : (bytes : List ℕ) (stop : Stop) → just_at bytes magic bytes ≡ Err stop → module_at bytes ≡ Err stop
no_magic bytes stop is = module_is bytes ∙ ap (λ (r : Result (List ℕ) Stop). r >>= λ header. just_at header version header >>= behind_header_at) is

in_version : (bytes header : List ℕ) → just_at bytes magic bytes ≡ Ok header → module_at bytes ≡ (just_at header version header >>= behind_header_at)
in_version bytes header is = module_is bytes ∙ ap (λ (r : Result (List ℕ) Stop). r >>= λ header. just_at header version header >>= behind_header_at) is

pub no_version : (bytes header : List ℕ) (stop : Stop) → just_at bytes magic bytes ≡ Ok header → just_at header version header ≡ Err stop → module_at bytes ≡ Err stop
no_version bytes header stop is read = in_version bytes header is ∙ ap (λ (r : Result (List ℕ) Stop). r >>= behind_header_at) read

pub module_begun : (bytes header begin : List ℕ) → just_at bytes magic bytes ≡ Ok header → just_at header version header ≡ Ok begin → module_at bytes ≡ behind_header_at begin
module_begun bytes header begin is read = in_version bytes header is ∙ ap (λ (r : Result (List ℕ) Stop). r >>= behind_header_at) read

-- ---- the end

pub end_reached : (bytes rest : List ℕ) → customs_at bytes ≡ Ok rest → length rest ≡ 0 → end_at bytes ≡ Ok rest
end_reached bytes [] is none = ap (λ (r : Result (List ℕ) Stop). r >>= nothing_more) is
end_reached bytes (first ∷ rest) is none = absurd (omega (arith, none))

pub end_missed : (bytes rest : List ℕ) → customs_at bytes ≡ Ok rest → 0 < length rest → end_at bytes ≡ Err (missing rest)
end_missed bytes [] is some = absurd (omega (arith, some))
end_missed bytes (first ∷ rest) is some = ap (λ (r : Result (List ℕ) Stop). r >>= nothing_more) is

-- ---- just these bytes

just_next : (place more bytes wanted : List ℕ) (byte : ℕ) → wanted ≡ byte ∷ more → just_at place wanted bytes ≡ (byte_at bytes >>= λ b. if b.0 == byte then just_at place more b.1 else refused kinds.Form place)
unfolding just_at
just_next place more [] wanted byte is = ap (λ (w : List ℕ). just_at place w []) is
just_next place more (first ∷ rest) wanted byte is = ap (λ (w : List ℕ). just_at place w (first ∷ rest)) is

in_turn : (place more bytes wanted rest : List ℕ) (byte first : ℕ) → wanted ≡ byte ∷ more → byte_at bytes ≡ Ok (first, rest) → just_at place wanted bytes ≡ (if first == byte then just_at place more rest else refused kinds.Form place)
in_turn place more bytes wanted rest byte first is read =
    just_next place more bytes wanted byte is ∙ ap (λ (r : Found ℕ). r >>= λ b. if b.0 == byte then just_at place more b.1 else refused kinds.Form place) read

pub just_more : (place more bytes wanted rest : List ℕ) (byte first : ℕ) (whole : Result (List ℕ) Stop) → wanted ≡ byte ∷ more → byte_at bytes ≡ Ok (first, rest) → first ≡ byte → just_at place wanted bytes ≡ whole → just_at place more rest ≡ whole
just_more place more bytes wanted rest byte first whole is read same so_far =
    sym (in_turn place more bytes wanted rest byte first is read ∙ ap (λ (t : Bool). if t then just_at place more rest else refused kinds.Form place) (eq-eqb first byte same)) ∙ so_far

pub just_other : (place more bytes wanted rest : List ℕ) (byte first : ℕ) (whole : Result (List ℕ) Stop) → wanted ≡ byte ∷ more → byte_at bytes ≡ Ok (first, rest) → (first ≡ byte → ⊥) → just_at place wanted bytes ≡ whole → whole ≡ refused kinds.Form place
just_other place more bytes wanted rest byte first whole is read other so_far =
    sym so_far ∙ (in_turn place more bytes wanted rest byte first is read ∙ ap (λ (t : Bool). if t then just_at place more rest else refused kinds.Form place) (ne_eqb first byte other))

pub just_stop : (place more bytes wanted : List ℕ) (byte : ℕ) (stop : Stop) (whole : Result (List ℕ) Stop) → wanted ≡ byte ∷ more → byte_at bytes ≡ Err stop → just_at place wanted bytes ≡ whole → whole ≡ Err stop
just_stop place more bytes wanted byte stop whole is read so_far =
    sym so_far ∙ (just_next place more bytes wanted byte is ∙ ap (λ (r : Found ℕ). r >>= λ b. if b.0 == byte then just_at place more b.1 else refused kinds.Form place) read)

pub just_all : (place bytes wanted : List ℕ) (whole : Result (List ℕ) Stop) → length wanted ≡ 0 → just_at place wanted bytes ≡ whole → whole ≡ Ok bytes
unfolding just_at
just_all place bytes [] whole none so_far = sym so_far
just_all place bytes (byte ∷ more) whole none so_far = absurd (omega (arith, none))
