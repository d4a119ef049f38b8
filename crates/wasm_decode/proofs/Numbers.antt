-- Numbers in groups of seven bits.
use Rattle.std.proofs.Common.{◌≡◌, ℕ, zero, suc, ◌+◌, ◌-◌, ◌*◌, ◌^◌, ◌<◌, ◌≤◌, Bool, if◌then◌else◌, nat_lt, List, [], ◌∷◌, length, drop, get_or, drop-cons, add-one, lit≤, Ok, Err, refl, sym, ap, ◌∙◌, subst, arith}
use native.Mathlib.Numerals.{unary_clauses}
use Rattle.std.proofs.Math.Nat.{mul-add, mul_assoc, mul_comm, pow-suc}
use Rattle.std.proofs.Math.Dec.{eqb-suc-zero}
use Rattle.std.proofs.lemmas.Nat.{mul-add-lt}
use Rattle.std.proofs.lemmas.Bool.{lt-ltb, le-ltb}
use Rattle.wasm_decode.specs.declared.fault.Stop.TheVariants.{Short}
use Rattle.wasm_decode.specs.declared.fault.WasmKind.TheVariants as kinds
use Rattle.wasm_decode.specs.declared.number.Groups.{Groups}
use Rattle.wasm_decode.specs.Groups.{AreGroups, IsLed, IsOnlyLed, last_bound, with_low}
use Rattle.wasm_decode.specs.ReadingValues.{grouped, signed_from, u32_at, unsigned_from}
use Rattle.wasm_decode.specs.Stops.{◌>>=◌, Found, refused}

-- one byte is a number
pub one_byte_u32 : (bytes rest : List ℕ) (byte : ℕ) → bytes ≡ byte ∷ rest → byte < 128 → u32_at bytes ≡ Ok (byte, rest)
unfolding u32_at unsigned_from
one_byte_u32 bytes rest byte is low =
    ap u32_at is ∙ ap (λ (t : Bool). if t then Ok (byte, rest) else (unsigned_from 3 16 (byte ∷ rest) rest >>= grouped byte)) (lt-ltb byte 128 low)

-- no group changes nothing
same_number : (read : Found ℕ) → read ≡ with_low 0 1 read
same_number (Ok x) = ap (λ (n : ℕ). let found : Found ℕ = Ok (n, x.1) in found) (omega arith)
same_number (Err stop) = refl

-- the groups begin
pub no_groups : (most : ℕ) (bytes : List ℕ) → AreGroups most bytes (record { count = 0; low = 0; scale = 1 })
no_groups most bytes = record {
  within = omega arith;
  inside = omega arith;
  scale = refl;
  low = omega arith;
  unsigned = λ top place. simp unary_clauses (same_number (unsigned_from most top place bytes));
  signed = λ top place. simp unary_clauses (same_number (signed_from most top place bytes));
}

regroup : (low scale digit high : ℕ) → low + scale * (digit + 128 * high) ≡ (low + digit * scale) + scale * 128 * high
regroup low scale digit high =
    let spread : scale * (digit + 128 * high) ≡ scale * digit + scale * (128 * high) = mul-add scale digit (128 * high) in
    omega (arith, spread, mul_comm scale digit, mul_assoc scale 128 high)

-- one more group, joined
join_group : (low scale byte : ℕ) (read : Found ℕ) → with_low low scale (read >>= grouped byte) ≡ with_low (low + (byte - 128) * scale) (scale * 128) read
join_group low scale byte (Ok x) = ap (λ (n : ℕ). let found : Found ℕ = Ok (n, x.1) in found) (regroup low scale (byte - 128) x.0)
join_group low scale byte (Err stop) = refl

unsigned_group : (most top byte : ℕ) (place rest : List ℕ) → 128 ≤ byte → unsigned_from (suc most) top place (byte ∷ rest) ≡ (unsigned_from most top place rest >>= grouped byte)
unfolding unsigned_from
unsigned_group most top byte place rest high =
    ap (λ (t : Bool). if t then Ok (byte, rest) else (unsigned_from most top place rest >>= grouped byte)) (le-ltb byte 128 high)

signed_group : (most top byte : ℕ) (place rest : List ℕ) → 128 ≤ byte → signed_from (suc most) top place (byte ∷ rest) ≡ (signed_from most top place rest >>= grouped byte)
unfolding signed_from
signed_group most top byte place rest high =
    ap (λ (t : Bool). if t then Ok (byte, rest) else (if nat_lt byte 128 then Ok (byte + top * 128 ^ suc most - 128, rest) else (signed_from most top place rest >>= grouped byte))) (le-ltb byte 64 (omega arith))
    ∙ ap (λ (t : Bool). if t then Ok (byte + top * 128 ^ suc most - 128, rest) else (signed_from most top place rest >>= grouped byte)) (le-ltb byte 128 high)

-- what is left behind a group
left_more : (most count : ℕ) → count < most → most - count ≡ suc (most - (count + 1))
left_more most count more = omega arith

drop_more : (bytes : List ℕ) (count : ℕ) → count < length bytes → drop count bytes ≡ get_or bytes count 0 ∷ drop (count + 1) bytes
drop_more bytes count more = rw add-one (drop-cons bytes count 0 more)

-- reading with one more group
more_unsigned : (most count low scale top : ℕ) (place bytes : List ℕ) → count < most → count < length bytes → 128 ≤ get_or bytes count 0
    → with_low low scale (unsigned_from (most - count) top place (drop count bytes))
    ≡ with_low (low + (get_or bytes count 0 - 128) * scale) (scale * 128) (unsigned_from (most - (count + 1)) top place (drop (count + 1) bytes))
more_unsigned most count low scale top place bytes more inside high =
    ap (λ (m : ℕ). with_low low scale (unsigned_from m top place (drop count bytes))) (left_more most count more)
    ∙ (ap (λ (bs : List ℕ). with_low low scale (unsigned_from (suc (most - (count + 1))) top place bs)) (drop_more bytes count inside)
    ∙ (ap (with_low low scale) (unsigned_group (most - (count + 1)) top (get_or bytes count 0) place (drop (count + 1) bytes) high)
    ∙ join_group low scale (get_or bytes count 0) (unsigned_from (most - (count + 1)) top place (drop (count + 1) bytes))))

more_signed : (most count low scale top : ℕ) (place bytes : List ℕ) → count < most → count < length bytes → 128 ≤ get_or bytes count 0
    → with_low low scale (signed_from (most - count) top place (drop count bytes))
    ≡ with_low (low + (get_or bytes count 0 - 128) * scale) (scale * 128) (signed_from (most - (count + 1)) top place (drop (count + 1) bytes))
more_signed most count low scale top place bytes more inside high =
    ap (λ (m : ℕ). with_low low scale (signed_from m top place (drop count bytes))) (left_more most count more)
    ∙ (ap (λ (bs : List ℕ). with_low low scale (signed_from (suc (most - (count + 1))) top place bs)) (drop_more bytes count inside)
    ∙ (ap (with_low low scale) (signed_group (most - (count + 1)) top (get_or bytes count 0) place (drop (count + 1) bytes) high)
    ∙ join_group low scale (get_or bytes count 0) (signed_from (most - (count + 1)) top place (drop (count + 1) bytes))))

-- the low bits stay below what the others count
low_more : (low scale digit : ℕ) → low < scale → digit < 128 → low + digit * scale < scale * 128
low_more low scale digit below small = omega (arith, mul-add-lt digit scale low 128 small below)

-- one more group
pub more_groups : (most : ℕ) (bytes : List ℕ) (g : Groups) (digit : ℕ) → AreGroups most bytes g → digit ≡ get_or bytes g.count 0 - 128 → g.count < most → g.count < length bytes → 128 ≤ get_or bytes g.count 0 → get_or bytes g.count 0 < 256
    → AreGroups most bytes (record { count = g.count + 1; low = g.low + digit * g.scale; scale = g.scale * 128 })
more_groups most bytes g digit are is more inside high byte =
    subst (λ (d : ℕ). AreGroups most bytes (record { count = g.count + 1; low = g.low + d * g.scale; scale = g.scale * 128 })) (sym is)
    (record {
      within = omega (arith, more);
      inside = omega (arith, inside);
      scale = ap (λ (n : ℕ). n * 128) are.scale ∙ rw add-one (sym (pow-suc 128 g.count));
      low = low_more g.low g.scale (get_or bytes g.count 0 - 128) are.low (omega (arith, byte));
      unsigned = λ top place. are.unsigned top place ∙ more_unsigned most g.count g.low g.scale top place bytes more inside high;
      signed = λ top place. are.signed top place ∙ more_signed most g.count g.low g.scale top place bytes more inside high;
    })

pub nothing : (xs ys : List ℕ) → xs ≡ ys → length xs ≡ 0 → ys ≡ []
nothing [] ys same none = sym same
nothing (x ∷ xs) ys same none = absurd (omega (arith, none))

-- the bytes end behind the groups
pub short_u32 : (bytes : List ℕ) → IsOnlyLed 4 bytes → u32_at bytes ≡ Err Short
unfolding u32_at unsigned_from
short_u32 bytes (g, are, end) = are.unsigned 16 bytes ∙ ap (λ (bs : List ℕ). with_low g.low g.scale (unsigned_from (4 - g.count) 16 bytes bs)) end

-- a byte behind the groups is the last
last_unsigned : (more top byte : ℕ) (place rest : List ℕ) → byte < last_bound more top → unsigned_from more top place (byte ∷ rest) ≡ Ok (byte, rest)
unfolding unsigned_from
last_unsigned zero top byte place rest low =
    ap (λ (t : Bool). let found : Found ℕ = if t then Ok (byte, rest) else refused kinds.Form place in found) (lt-ltb byte top low)
last_unsigned (suc more) top byte place rest low =
    let small : byte < 128 = rw eqb-suc-zero at low in
    ap (λ (t : Bool). if t then Ok (byte, rest) else (unsigned_from more top place rest >>= grouped byte)) (lt-ltb byte 128 small)

-- a byte where none may follow has other bits
no_last_unsigned : (top byte : ℕ) (place rest : List ℕ) → top ≤ byte → unsigned_from zero top place (byte ∷ rest) ≡ refused kinds.Form place
unfolding unsigned_from
no_last_unsigned top byte place rest high =
    ap (λ (t : Bool). let found : Found ℕ = if t then Ok (byte, rest) else refused kinds.Form place in found) (le-ltb byte top high)

empty_cons : (x : ℕ) (xs : List ℕ) → [] ≡ x ∷ xs → ⊥
empty_cons x xs same = cc

cons_head : (x y : ℕ) (xs ys : List ℕ) → x ∷ xs ≡ y ∷ ys → x ≡ y
cons_head x y xs ys same = cc

has_byte : (bytes rest : List ℕ) (count byte : ℕ) → drop count bytes ≡ byte ∷ rest → count < length bytes
has_byte [] rest zero byte is = absurd (empty_cons byte rest is)
has_byte [] rest (suc count) byte is = absurd (empty_cons byte rest is)
has_byte (first ∷ bytes) rest zero byte is = omega arith
has_byte (first ∷ bytes) rest (suc count) byte is = omega (arith, has_byte bytes rest count byte is)

-- the byte behind the groups
byte_behind : (bytes rest : List ℕ) (count byte : ℕ) → drop count bytes ≡ byte ∷ rest → (count < length bytes) × (get_or bytes count 0 ≡ byte)
byte_behind bytes rest count byte is =
    let inside : count < length bytes = has_byte bytes rest count byte is in
    (inside, cons_head (get_or bytes count 0) byte (drop (suc count) bytes) rest (sym (drop-cons bytes count 0 inside) ∙ is))

-- the byte behind the groups is not below what it is to be below, so none may follow it
no_more : (more top byte : ℕ) → (0 < more → byte < 128) → last_bound more top ≤ byte → (more ≡ 0) × (top ≤ byte)
no_more zero top byte small high = (refl, high)
no_more (suc more) top byte small high =
    let above : 128 ≤ byte = rw eqb-suc-zero at high in
    absurd (omega (arith, above, small (omega arith)))

-- a byte behind the groups that may have another behind it has not its top bit
pub small_behind : (most byte : ℕ) (bytes rest : List ℕ) (g : Groups) → IsLed most bytes g → drop g.count bytes ≡ byte ∷ rest → 0 < most - g.count → byte < 128
small_behind most byte bytes rest g led is more =
    let here = byte_behind bytes rest g.count byte is in
    omega (arith, led.1 (omega (arith, more)) here.0, here.1)

pub form_u32 : (bytes rest : List ℕ) (g : Groups) (byte : ℕ) → IsLed 4 bytes g → drop g.count bytes ≡ byte ∷ rest → last_bound (4 - g.count) 16 ≤ byte → u32_at bytes ≡ refused kinds.Form bytes
unfolding u32_at
form_u32 bytes rest g byte led is high =
    let end = no_more (4 - g.count) 16 byte (small_behind 4 byte bytes rest g led is) high in
    led.0.unsigned 16 bytes
    ∙ (ap (λ (bs : List ℕ). with_low g.low g.scale (unsigned_from (4 - g.count) 16 bytes bs)) is
    ∙ (ap (λ (m : ℕ). with_low g.low g.scale (unsigned_from m 16 bytes (byte ∷ rest))) end.0
    ∙ ap (with_low g.low g.scale) (no_last_unsigned 16 byte bytes rest end.1)))

-- the byte behind the groups is the last
pub found_u32 : (bytes rest : List ℕ) (g : Groups) (byte last : ℕ) → AreGroups 4 bytes g → drop g.count bytes ≡ byte ∷ rest → byte < last_bound (4 - g.count) 16 → last ≡ byte → u32_at bytes ≡ Ok (g.low + last * g.scale, rest)
unfolding u32_at
found_u32 bytes rest g byte last are is low same =
    are.unsigned 16 bytes
    ∙ (ap (λ (bs : List ℕ). with_low g.low g.scale (unsigned_from (4 - g.count) 16 bytes bs)) is
    ∙ (ap (with_low g.low g.scale) (last_unsigned (4 - g.count) 16 byte bytes rest low)
    ∙ ap (λ (n : ℕ). let found : Found ℕ = Ok (g.low + n, rest) in found) (mul_comm g.scale byte ∙ ap (λ (b : ℕ). b * g.scale) (sym same))))

-- the greatest number fits
room_u32 : (count : ℕ) → count ≤ 4 → 128 ^ count * last_bound (4 - count) 16 ≤ 2 ^ 32
room_u32 zero within = lit≤ tt
room_u32 (suc zero) within = lit≤ tt
room_u32 (suc (suc zero)) within = lit≤ tt
room_u32 (suc (suc (suc zero))) within = lit≤ tt
room_u32 (suc (suc (suc (suc zero)))) within = lit≤ tt
room_u32 (suc (suc (suc (suc (suc n))))) within = absurd (omega (arith, within))

pub small_u32 : (bytes : List ℕ) (g : Groups) (byte : ℕ) → AreGroups 4 bytes g → byte < last_bound (4 - g.count) 16 → g.low + byte * g.scale < 2 ^ 32
small_u32 bytes g byte are low =
    let below = mul-add-lt byte g.scale g.low (last_bound (4 - g.count) 16) low are.low in
    let room = subst (λ (n : ℕ). n * last_bound (4 - g.count) 16 ≤ 2 ^ 32) (sym are.scale) (room_u32 g.count are.within) in
    omega (arith, below, room)
