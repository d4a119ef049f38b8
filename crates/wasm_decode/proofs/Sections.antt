-- Reading sections by how they begin.
use Rattle.std.proofs.Common.{◌≡◌, ℕ, zero, suc, ◌-◌, ◌<◌, Bool, true, false, if◌then◌else◌, ◌==◌, List, [], ◌∷◌, length, Result, Ok, Err, refl, sym, ap, ◌∙◌, Bor, arith}
use Rattle.wasm_decode.specs.declared.fault.Stop.{Stop}
use Rattle.wasm_decode.specs.declared.fault.Stop.TheVariants.{Short, Flaw}
use Rattle.wasm_decode.specs.declared.fault.WasmKind.TheVariants as kinds
use Rattle.wasm_decode.specs.declared.section.Opening.{Opening as OpeningOfCode}
use Rattle.wasm_decode.specs.declared.section.Opening.TheVariants.{Absent, Begun}
use Rattle.wasm_decode.specs.declared.part.Part.{Part as PartOfCode}
use Rattle.wasm_decode.specs.Openings.{Opening, absent, begun, missing, opening_at, opening_here, opening_seen, read_in}
use Rattle.wasm_decode.specs.Parts.{part_of, stop_around}
use Rattle.wasm_decode.specs.ReadingModule.{custom_at, customs_at, customs_from, no_section, section_at, this_section}
use Rattle.wasm_decode.specs.ReadingValues.{part_at, sized_at}
use Rattle.wasm_decode.specs.Stops.{◌>>=◌, Found, Part, closed}

-- ---- sections

in_part : {A : Type 0} (none : A) (content : List ℕ → Found A) (read : Result Part Stop) → (read >>= λ part. closed part (content part.content)) ≡ ((read >>= λ part. Ok (begun part)) >>= read_in none content)
in_part none content (Ok part) = refl
in_part none content (Err stop) = refl

at_first : {A : Type 0} (none : A) (content : List ℕ → Found A) (first : ℕ) (rest : List ℕ) (test : Bool)
    → (if test then sized_at content rest else Ok (none, first ∷ rest)) ≡ ((if test then (part_at rest >>= λ part. Ok (begun part)) else Ok (absent (first ∷ rest))) >>= read_in none content)
unfolding sized_at
at_first none content first rest true = in_part none content (part_at rest)
at_first none content first rest false = refl

at_front : {A : Type 0} (number : ℕ) (none : A) (content : List ℕ → Found A) (front : Result (List ℕ) Stop) → (front >>= this_section number none content) ≡ ((front >>= opening_here number) >>= read_in none content)
at_front number none content (Err stop) = refl
at_front number none content (Ok []) = refl
at_front number none content (Ok (first ∷ rest)) = at_first none content first rest (first == number)

-- a section as it begins
section_is : {A : Type 0} (number : ℕ) (none : A) (content : List ℕ → Found A) (bytes : List ℕ) → section_at number none content bytes ≡ (opening_at number bytes >>= read_in none content)
unfolding section_at opening_at
section_is number none content bytes = at_front number none content (customs_at bytes)

-- a section that begins so
section_by : {A : Type 0} (number : ℕ) (none : A) (content : List ℕ → Found A) (bytes : List ℕ) (opening : Opening) → opening_at number bytes ≡ Ok opening → section_at number none content bytes ≡ read_in none content opening
section_by number none content bytes opening is = section_is number none content bytes ∙ ap (λ (r : Result Opening Stop). r >>= read_in none content) is

-- it is absent
pub absent_is : {A : Type 0} (number : ℕ) (none row : A) (content : List ℕ → Found A) (bytes : List ℕ) (opening : OpeningOfCode) (rest : Bor (List ℕ)) → opening_at number bytes ≡ Ok (opening_seen opening) → opening ≡ Absent rest → row ≡ none
    → section_at number none content bytes ≡ Ok (row, rest.now)
absent_is {A} number none row content bytes opening rest is stands same =
    section_by number none content bytes (opening_seen opening) is ∙ (ap (λ (o : OpeningOfCode). read_in none content (opening_seen o)) stands
    ∙ ap (λ (x : A). let found : Found A = Ok (x, rest.now) in found) (sym same))

-- it has begun
pub begun_is : {A : Type 0} (number : ℕ) (none : A) (content : List ℕ → Found A) (bytes : List ℕ) (opening : OpeningOfCode) (part : PartOfCode) → opening_at number bytes ≡ Ok (opening_seen opening) → opening ≡ Begun part
    → section_at number none content bytes ≡ closed (part_of part) (content part.content.now)
begun_is number none content bytes opening part is stands =
    section_by number none content bytes (opening_seen opening) is ∙ ap (λ (o : OpeningOfCode). read_in none content (opening_seen o)) stands

pub section_stops : {A : Type 0} (number : ℕ) (none : A) (content : List ℕ → Found A) (bytes : List ℕ) (stop : Stop) → opening_at number bytes ≡ Err stop → section_at number none content bytes ≡ Err stop
section_stops number none content bytes stop is = section_is number none content bytes ∙ ap (λ (r : Result Opening Stop). r >>= read_in none content) is

-- where no section can stand
pub no_section_is : {A : Type 0} (bytes : List ℕ) → no_section {A = A} bytes ≡ Err (missing bytes)
no_section_is [] = refl
no_section_is (first ∷ rest) = refl

-- ---- custom sections

short_in : {A : Type 0} (test : Bool) (part : Part) → (let found : Found A = if test then Err Short else Err (Flaw kinds.Form part.left) in found) ≡ Err (if test then Short else Flaw kinds.Form part.left)
short_in true part = refl
short_in false part = refl

-- reading that stops in a part stops around it
pub closed_stop : {A : Type 0} (part : Part) (stop : Stop) → closed {A = A} part (Err stop) ≡ Err (stop_around part stop)
closed_stop part (Flaw kind left) = refl
closed_stop part Short = short_in part.is_cut part

-- no more bytes
pub customs_none : (left : ℕ) (bytes : List ℕ) (whole : Result (List ℕ) Stop) → 0 < left → length bytes ≡ 0 → customs_from left bytes ≡ whole → whole ≡ Ok bytes
unfolding customs_from
customs_none zero bytes whole some is so_far = absurd (omega (arith, some))
customs_none (suc left) [] whole some none so_far = sym so_far
customs_none (suc left) (byte ∷ rest) whole some none so_far = absurd (omega (arith, none))

-- another section
pub customs_other : (left first : ℕ) (bytes rest : List ℕ) (whole : Result (List ℕ) Stop) → 0 < left → bytes ≡ first ∷ rest → 0 < first → customs_from left bytes ≡ whole → whole ≡ Ok bytes
unfolding customs_from
customs_other zero first bytes rest whole some is other so_far = absurd (omega (arith, some))
customs_other (suc left) zero bytes rest whole some is other so_far = absurd (omega (arith, other))
customs_other (suc left) (suc n) bytes rest whole some is other so_far = sym so_far ∙ (ap (customs_from (suc left)) is ∙ ap (λ (bs : List ℕ). let r : Result (List ℕ) Stop = Ok bs in r) (sym is))

-- a custom section
customs_next : (left : ℕ) (bytes rest : List ℕ) → 0 < left → bytes ≡ 0 ∷ rest → customs_from left bytes ≡ (custom_at rest >>= customs_from (left - 1))
unfolding customs_from
customs_next zero bytes rest some is = absurd (omega (arith, some))
customs_next (suc left) bytes rest some is = ap (customs_from (suc left)) is ∙ ap (λ (n : ℕ). custom_at rest >>= customs_from n) (let e : left ≡ suc left - 1 = omega arith in e)

pub customs_more : (left first : ℕ) (bytes rest behind : List ℕ) (whole : Result (List ℕ) Stop) → 0 < left → bytes ≡ first ∷ rest → first ≡ 0 → custom_at rest ≡ Ok behind → customs_from left bytes ≡ whole → customs_from (left - 1) behind ≡ whole
customs_more left first bytes rest behind whole some is custom read so_far =
    sym (customs_next left bytes rest some (is ∙ ap (λ (b : ℕ). b ∷ rest) custom) ∙ ap (λ (r : Result (List ℕ) Stop). r >>= customs_from (left - 1)) read) ∙ so_far

pub customs_stop : (left first : ℕ) (bytes rest : List ℕ) (stop : Stop) (whole : Result (List ℕ) Stop) → 0 < left → bytes ≡ first ∷ rest → first ≡ 0 → custom_at rest ≡ Err stop → customs_from left bytes ≡ whole → whole ≡ Err stop
customs_stop left first bytes rest stop whole some is custom read so_far =
    sym so_far ∙ (customs_next left bytes rest some (is ∙ ap (λ (b : ℕ). b ∷ rest) custom) ∙ ap (λ (r : Result (List ℕ) Stop). r >>= customs_from (left - 1)) read)

-- as many were read as there are bytes
pub customs_all : (left : ℕ) (bytes : List ℕ) (whole : Result (List ℕ) Stop) → left ≡ 0 → customs_from left bytes ≡ whole → whole ≡ Ok bytes
unfolding customs_from
customs_all left bytes whole none so_far = sym so_far ∙ ap (λ (n : ℕ). customs_from n bytes) none

-- none was read yet
pub customs_begun : (bytes : List ℕ) (left : ℕ) → left ≡ length bytes → customs_from left bytes ≡ customs_at bytes
unfolding customs_at
customs_begun bytes left all = ap (λ (n : ℕ). customs_from n bytes) all
