-- Signed numbers in groups of seven bits.
use Rattle.std.proofs.Common.{◌≡◌, ℕ, zero, suc, ◌+◌, ◌-◌, ◌*◌, ◌/◌, ◌^◌, ◌<◌, ◌≤◌, Bool, false, IsTrue, ◌↔◌, not, ◌&&◌, if◌then◌else◌, nat_lt, List, ◌∷◌, drop, Ok, Err, lit≤, inl, inr, refl, sym, ap, ◌∙◌, subst, arith}
use Rattle.std.proofs.Math.Dec.{eqb-suc-zero}
use Rattle.std.proofs.Math.Nat.{le-mul_of_pos_right, mul-add, mul_assoc, mul_comm, mul-le-mul_left, mul-le-mul_right, mul-sub, one-le-mul, pow-suc}
use Rattle.std.proofs.lemmas.Bool.{and_right, both_ways, cases_lt, lt-ltb, le-ltb}
use Rattle.std.proofs.lemmas.Nat.{mul-add-lt, mul-le, pow-add}
use Rattle.wasm_decode.specs.declared.fault.Stop.TheVariants.{Short}
use Rattle.wasm_decode.specs.declared.fault.WasmKind.TheVariants as kinds
use Rattle.wasm_decode.specs.declared.number.Groups.{Groups}
use Rattle.wasm_decode.specs.Groups.{AreGroups, IsLed, IsOnlyLed, IsWidth, half, with_low}
use Rattle.wasm_decode.specs.ReadingValues.{grouped, signed_from}
use Rattle.wasm_decode.specs.Stops.{◌>>=◌, Found, refused}
use Rattle.wasm_decode.proofs.Numbers.{small_behind}

-- ---- how large the parts are

one_pow : (m : ℕ) → 1 ≤ 128 ^ m
one_pow zero = lit≤ tt
one_pow (suc m) = rw pow-suc (omega (arith, one_pow m))

-- a byte's bits are among those of a number that goes on
above_byte : (m top : ℕ) → 1 ≤ top → 128 ≤ top * 128 ^ suc m
above_byte m top least =
    let more : 128 ≤ 128 ^ suc m = rw pow-suc (omega (arith, one_pow m)) in
    mul-le 1 128 top (128 ^ suc m) least more

-- the numbers from a group on
spread : (groups count more top greatest : ℕ) → count + more ≡ groups → greatest + 1 ≡ top * 128 ^ groups → greatest + 1 ≡ 128 ^ count * (top * 128 ^ more)
spread groups count more top greatest parts full =
    full ∙ (ap (λ (n : ℕ). top * 128 ^ n) (sym parts) ∙ (ap (λ (p : ℕ). top * p) (pow-add 128 count more)
    ∙ (sym (mul_assoc top (128 ^ count) (128 ^ more)) ∙ (ap (λ (t : ℕ). t * 128 ^ more) (mul_comm top (128 ^ count)) ∙ mul_assoc (128 ^ count) top (128 ^ more)))))

-- twice the numbers without a sign are all
twice : (scale more top greatest : ℕ) → greatest + 1 ≡ scale * (top * 128 ^ more) → top ≡ top / 2 + top / 2 → 1 ≤ top / 2 → scale * (half more top + half more top) ≤ greatest + 1
twice scale zero top greatest full even least =
    let whole : scale * (top / 2 + top / 2) ≡ scale * top = ap (λ (n : ℕ). scale * n) (sym even) in
    let last : scale * (top * 1) ≡ scale * top = ap (λ (n : ℕ). scale * n) (let e : top * 1 ≡ top = omega arith in e) in
    omega (arith, whole, full, last)
twice scale (suc more) top greatest full even least =
    rw eqb-suc-zero (omega (arith, full, mul-le-mul_left scale (above_byte more top (omega (arith, even, least)))))

half_least : (more top : ℕ) → 1 ≤ top / 2 → 1 ≤ half more top
half_least zero top least = least
half_least (suc more) top least = rw eqb-suc-zero (lit≤ tt)

-- a number without a sign
pub record IsPositive (low scale byte greatest : ℕ) : Type 0 where
  pub product : byte * scale ≤ greatest
  pub sum : low + byte * scale ≤ greatest

pub positive : (groups top greatest byte last : ℕ) (bytes : List ℕ) (g : Groups) → IsWidth groups top greatest → AreGroups groups bytes g → byte < half (groups - g.count) top → last ≡ byte → IsPositive g.low g.scale last greatest
positive groups top greatest byte last bytes g width are low same =
    let h = half (groups - g.count) top in
    let full = spread groups g.count (groups - g.count) top greatest (omega (arith, are.within)) width.full in
    let all = twice (128 ^ g.count) (groups - g.count) top greatest full width.even width.least in
    let all_scaled : g.scale * (h + h) ≤ greatest + 1 = subst (λ (s : ℕ). s * (h + h) ≤ greatest + 1) (sym are.scale) all in
    let below = mul-add-lt byte g.scale g.low h low are.low in
    subst (λ (b : ℕ). IsPositive g.low g.scale b greatest) (sym same) (record {
      product = omega (arith, below, all_scaled, mul-add g.scale h h);
      sum = omega (arith, below, all_scaled, mul-add g.scale h h);
    })

-- a number below 0, that lacks `lacking` of a byte
pub record IsNegative (low scale lacking greatest : ℕ) : Type 0 where
  pub product : lacking * scale ≤ greatest
  pub sum : low < lacking * scale

pub negative : (groups top greatest lacking : ℕ) (bytes : List ℕ) (g : Groups) → IsWidth groups top greatest → AreGroups groups bytes g → 0 < lacking → lacking ≤ half (groups - g.count) top → IsNegative g.low g.scale lacking greatest
negative groups top greatest lacking bytes g width are some little =
    let h = half (groups - g.count) top in
    let full = spread groups g.count (groups - g.count) top greatest (omega (arith, are.within)) width.full in
    let all = twice (128 ^ g.count) (groups - g.count) top greatest full width.even width.least in
    let all_scaled : g.scale * (h + h) ≤ greatest + 1 = subst (λ (s : ℕ). s * (h + h) ≤ greatest + 1) (sym are.scale) all in
    let one : 1 ≤ g.scale * h = one-le-mul (omega (arith, are.low)) (half_least (groups - g.count) top width.least) in
    let most : lacking * g.scale ≤ h * g.scale = mul-le-mul_right g.scale little in
    record {
      product = omega (arith, most, one, all_scaled, mul-add g.scale h h, mul_comm h g.scale);
      sum = omega (arith, are.low, le-mul_of_pos_right g.scale some, mul_comm g.scale lacking);
    }

-- ---- the last byte

-- without a sign
last_positive : (more top byte : ℕ) (place rest : List ℕ) → byte < half more top → signed_from more top place (byte ∷ rest) ≡ Ok (byte, rest)
unfolding signed_from
last_positive zero top byte place rest low =
    ap (λ (t : Bool). let found : Found ℕ = if t then Ok (byte, rest) else (if not (nat_lt (byte + top / 2) 128) && nat_lt byte 128 then Ok (byte + top - 128, rest) else refused kinds.Form place) in found) (lt-ltb byte (top / 2) low)
last_positive (suc more) top byte place rest low =
    let small : byte < 64 = rw eqb-suc-zero at low in
    ap (λ (t : Bool). let found : Found ℕ = if t then Ok (byte, rest) else (if nat_lt byte 128 then Ok (byte + top * 128 ^ suc more - 128, rest) else (signed_from more top place rest >>= grouped byte)) in found) (lt-ltb byte 64 small)

-- with one
last_negative : (more top byte : ℕ) (place rest : List ℕ) → half more top ≤ byte → byte < 128 → 128 ≤ byte + half more top → signed_from more top place (byte ∷ rest) ≡ Ok (byte + top * 128 ^ more - 128, rest)
unfolding signed_from
last_negative zero top byte place rest high small enough =
    ap (λ (t : Bool). let found : Found ℕ = if t then Ok (byte, rest) else (if not (nat_lt (byte + top / 2) 128) && nat_lt byte 128 then Ok (byte + top - 128, rest) else refused kinds.Form place) in found) (le-ltb byte (top / 2) high)
    ∙ (ap (λ (t : Bool). let found : Found ℕ = if not t && nat_lt byte 128 then Ok (byte + top - 128, rest) else refused kinds.Form place in found) (le-ltb (byte + top / 2) 128 enough)
    ∙ (ap (λ (t : Bool). let found : Found ℕ = if t then Ok (byte + top - 128, rest) else refused kinds.Form place in found) (lt-ltb byte 128 small)
    ∙ ap (λ (n : ℕ). let found : Found ℕ = Ok (byte + n - 128, rest) in found) (let e : top ≡ top * 1 = omega arith in e)))
last_negative (suc more) top byte place rest high small enough =
    let above : 64 ≤ byte = rw eqb-suc-zero at high in
    ap (λ (t : Bool). let found : Found ℕ = if t then Ok (byte, rest) else (if nat_lt byte 128 then Ok (byte + top * 128 ^ suc more - 128, rest) else (signed_from more top place rest >>= grouped byte)) in found) (le-ltb byte 64 above)
    ∙ ap (λ (t : Bool). let found : Found ℕ = if t then Ok (byte + top * 128 ^ suc more - 128, rest) else (signed_from more top place rest >>= grouped byte) in found) (lt-ltb byte 128 small)

-- with other bits than its sign
no_sign : (top byte : ℕ) (place rest : List ℕ) (test : Bool) → test ≡ false → top / 2 ≤ byte → (not (nat_lt (byte + top / 2) 128) && nat_lt byte 128) ≡ test → signed_from zero top place (byte ∷ rest) ≡ refused kinds.Form place
unfolding signed_from
no_sign top byte place rest test fails high is =
    ap (λ (t : Bool). let found : Found ℕ = if t then Ok (byte, rest) else (if not (nat_lt (byte + top / 2) 128) && nat_lt byte 128 then Ok (byte + top - 128, rest) else refused kinds.Form place) in found) (le-ltb byte (top / 2) high)
    ∙ ap (λ (t : Bool). let found : Found ℕ = if t then Ok (byte + top - 128, rest) else refused kinds.Form place in found) (is ∙ fails)

last_form : (more top byte : ℕ) (place rest : List ℕ) → (0 < more → byte < 128) → half more top ≤ byte → (byte < 128 → byte + half more top < 128) → signed_from more top place (byte ∷ rest) ≡ refused kinds.Form place
last_form zero top byte place rest small high other = elim (cases_lt byte 128) [
  | inl below ↦ no_sign top byte place rest (not (nat_lt (byte + top / 2) 128) && nat_lt byte 128) (ap (λ (t : Bool). not t && nat_lt byte 128) (lt-ltb (byte + top / 2) 128 (other below))) high refl
  | inr above ↦ no_sign top byte place rest (not (nat_lt (byte + top / 2) 128) && nat_lt byte 128) (and_right (not (nat_lt (byte + top / 2) 128)) (nat_lt byte 128) (le-ltb byte 128 above)) high refl
]
last_form (suc more) top byte place rest small high other =
    let above : 64 ≤ byte = rw eqb-suc-zero at high in
    let low : byte + 64 < 128 = rw eqb-suc-zero at (other (small (omega arith))) in
    absurd (omega (arith, above, low))

-- ---- the whole number

pub short_signed : (groups top : ℕ) (bytes : List ℕ) → IsOnlyLed groups bytes → signed_from groups top bytes bytes ≡ Err Short
unfolding signed_from
short_signed groups top bytes (g, are, end) = are.signed top bytes ∙ ap (λ (bs : List ℕ). with_low g.low g.scale (signed_from (groups - g.count) top bytes bs)) end

at_last : (groups top byte : ℕ) (bytes rest : List ℕ) (g : Groups) → AreGroups groups bytes g → drop g.count bytes ≡ byte ∷ rest
    → signed_from groups top bytes bytes ≡ with_low g.low g.scale (signed_from (groups - g.count) top bytes (byte ∷ rest))
at_last groups top byte bytes rest g are is = are.signed top bytes ∙ ap (λ (bs : List ℕ). with_low g.low g.scale (signed_from (groups - g.count) top bytes bs)) is

pub positive_found : (groups top byte last : ℕ) (bytes rest : List ℕ) (g : Groups) → AreGroups groups bytes g → drop g.count bytes ≡ byte ∷ rest → byte < half (groups - g.count) top → last ≡ byte
    → signed_from groups top bytes bytes ≡ Ok (g.low + last * g.scale, rest)
positive_found groups top byte last bytes rest g are is low same =
    at_last groups top byte bytes rest g are is ∙ (ap (with_low g.low g.scale) (last_positive (groups - g.count) top byte bytes rest low)
    ∙ ap (λ (n : ℕ). let found : Found ℕ = Ok (g.low + n, rest) in found) (mul_comm g.scale byte ∙ ap (λ (b : ℕ). b * g.scale) (sym same)))

-- the bits of a number below 0
below_zero : (low scale byte lacking all greatest : ℕ) → byte < 128 → lacking ≡ 128 - byte → greatest + 1 ≡ scale * all → lacking * scale ≤ greatest
    → low + scale * (byte + all - 128) ≡ greatest - lacking * scale + 1 + low
below_zero low scale byte lacking all greatest small same full within =
    let bits : scale * (byte + all - 128) ≡ scale * (all - lacking) = ap (λ (n : ℕ). scale * n) (let e : byte + all - 128 ≡ all - lacking = omega (arith, small, same) in e) in
    omega (arith, bits, mul-sub scale all lacking, full, within, mul_comm scale lacking)

pub negative_found : (groups top greatest byte lacking : ℕ) (bytes rest : List ℕ) (g : Groups) → IsWidth groups top greatest → AreGroups groups bytes g → drop g.count bytes ≡ byte ∷ rest
    → half (groups - g.count) top ≤ byte → byte < 128 → 128 - byte ≤ half (groups - g.count) top → lacking ≡ 128 - byte
    → signed_from groups top bytes bytes ≡ Ok (greatest - lacking * g.scale + 1 + g.low, rest)
negative_found groups top greatest byte lacking bytes rest g width are is high small enough same =
    at_last groups top byte bytes rest g are is
    ∙ (ap (with_low g.low g.scale) (last_negative (groups - g.count) top byte bytes rest high small (omega (arith, enough, small)))
    ∙ ap (λ (n : ℕ). let found : Found ℕ = Ok (n, rest) in found)
    (below_zero g.low g.scale byte lacking (top * 128 ^ (groups - g.count)) greatest small same
    (subst (λ (s : ℕ). greatest + 1 ≡ s * (top * 128 ^ (groups - g.count))) (sym are.scale) (spread groups g.count (groups - g.count) top greatest (omega (arith, are.within)) width.full))
    (negative groups top greatest lacking bytes g width are (omega (arith, small, same)) (omega (arith, enough, same))).product))

pub form_signed : (groups top byte : ℕ) (bytes rest : List ℕ) (g : Groups) → IsLed groups bytes g → drop g.count bytes ≡ byte ∷ rest
    → half (groups - g.count) top ≤ byte → (byte < 128 → half (groups - g.count) top < 128 - byte) → signed_from groups top bytes bytes ≡ refused kinds.Form bytes
form_signed groups top byte bytes rest g led is high other =
    at_last groups top byte bytes rest g led.0 is
    ∙ ap (with_low g.low g.scale) (last_form (groups - g.count) top byte bytes rest (small_behind groups byte bytes rest g led is) high (λ small. omega (arith, small, other small)))

-- what it means that a byte tells no sign
pub no_sign_found : (told : Bool) (byte most : ℕ) → (IsTrue told ↔ ((byte < 128) × (128 - byte ≤ most))) → told ≡ false → byte < 128 → most < 128 - byte
no_sign_found told byte most says denied small = elim (cases_lt most (128 - byte)) [
  | inl below ↦ below
  | inr within ↦ absurd (both_ways told denied (says.1 (small, within)))
]
