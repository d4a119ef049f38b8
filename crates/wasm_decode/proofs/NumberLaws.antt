-- Numbers: what is read is spelled so, and what is spelled so is read.
use Rattle.std.proofs.Common.{◌≡◌, ℕ, zero, suc, ◌+◌, ◌-◌, ◌*◌, ◌/◌, ◌^◌, ◌<◌, ◌≤◌, inl, inr, not, ◌&&◌, nat_lt, if◌then◌else◌, List, [], ◌∷◌, ◌++◌, Ok, Err, refl, sym, ap, ◌∙◌, arith}
use Rattle.std.proofs.Math.Nat.{mul-le-mul_right, pow-suc}
use Rattle.std.proofs.lemmas.Bool.{lt-ltb, le-ltb, ltb-true, ltb-false, and_parts, and_from, not-true, not_from_false}
use Rattle.wasm_decode.specs.declared.fault.WasmKind.TheVariants as kinds
use Rattle.wasm_decode.specs.ReadingValues.{grouped, i32_at, i64_at, signed_from, u32_at, unsigned_from}
use Rattle.wasm_decode.specs.Stops.{◌>>=◌, Found, refused}
use Rattle.wasm_decode.specs.Values.{IsGroup, SpellsI32, SpellsI64, SpellsSigned, SpellsU32, SpellsUnsigned}
use Rattle.wasm_decode.proofs.Fronts.{Again, Front, Takes, alone, chosen, found, go, left, same_found, succeeds, taken}

-- a group in front of a number
grouped_takes : (P Q : ℕ → List ℕ → Type 0) (byte : ℕ) (behind rest : List ℕ) (n : ℕ) (read : Found ℕ) → (read >>= grouped byte) ≡ Ok (n, rest)
    → ((high : ℕ) → read ≡ Ok (high, rest) → Front (P high) behind rest)
    → ((high : ℕ) (front : List ℕ) → n ≡ (byte - 128) + 128 * high → P high front → Q n (byte ∷ front))
    → Front (Q n) (byte ∷ behind) rest
grouped_takes P Q byte behind rest n (Err stop) e inner whole = absurd cc
grouped_takes P Q byte behind rest n (Ok (high, end)) e inner whole =
    let same = same_found e in
    let h = inner high (ap (λ (r : List ℕ). found high r) same.1) in
    record { front = byte ∷ h.front; parts = ap (λ (bs : List ℕ). byte ∷ bs) h.parts; laid = whole high h.front (sym same.0) h.laid }

-- ---- unsigned numbers

pub unsigned_takes : (more top : ℕ) (place bytes rest : List ℕ) (n : ℕ) → unsigned_from more top place bytes ≡ Ok (n, rest) → Front (SpellsUnsigned more top n) bytes rest
unfolding unsigned_from
unsigned_takes zero top place [] rest n e = absurd cc
unsigned_takes (suc more) top place [] rest n e = absurd cc
unsigned_takes zero top place (byte ∷ behind) rest n e =
    let test = succeeds (nat_lt byte top) kinds.Form place (byte, behind) (n, rest) e in
    let same = same_found (ap (λ (x : ℕ × List ℕ). found x.0 x.1) test.1) in
    alone (SpellsUnsigned zero top n) byte n behind rest same.0 same.1 (omega (arith, ltb-true byte top test.0, same.0), refl)
unsigned_takes (suc more) top place (byte ∷ behind) rest n e =
    elim (chosen (nat_lt byte 128) (found byte behind) (unsigned_from more top place behind >>= grouped byte) (Ok (n, rest)) e) [
      | inl low ↦
          let same = same_found low.1 in
          alone (SpellsUnsigned (suc more) top n) byte n behind rest same.0 same.1 (inl (omega (arith, ltb-true byte 128 low.0, same.0), refl))
      | inr high ↦ grouped_takes (SpellsUnsigned more top) (SpellsUnsigned (suc more) top) byte behind rest n (unsigned_from more top place behind) high.1
          (λ m is. unsigned_takes more top place behind rest m is)
          (λ m front is laid. inr (byte, m, front, (ltb-false byte 128 high.0, omega (arith, is, ltb-false byte 128 high.0)), refl, laid))
    ]

pub u32_takes : Takes u32_at SpellsU32
unfolding u32_at
u32_takes bytes rest n e = unsigned_takes 4 16 bytes bytes rest n e

regroup : (byte high n : ℕ) (rest : List ℕ) → IsGroup byte high n → grouped byte (high, rest) ≡ Ok (n, rest)
regroup byte high n rest is = ap (λ (m : ℕ). found m rest) (omega (arith, is.0, is.1))

unsigned_last : (top n : ℕ) (place rest : List ℕ) → n < top → unsigned_from zero top place (n ∷ rest) ≡ Ok (n, rest)
unfolding unsigned_from
unsigned_last top n place rest small = taken (nat_lt n top) (Ok (n, rest)) (refused kinds.Form place) (lt-ltb n top small)

unsigned_low : (more top n : ℕ) (place rest : List ℕ) → n < 128 → unsigned_from (suc more) top place (n ∷ rest) ≡ Ok (n, rest)
unfolding unsigned_from
unsigned_low more top n place rest small = taken (nat_lt n 128) (Ok (n, rest)) (unsigned_from more top place rest >>= grouped n) (lt-ltb n 128 small)

unsigned_more : (more top byte high n : ℕ) (place behind rest : List ℕ) → IsGroup byte high n → unsigned_from more top place behind ≡ Ok (high, rest) → unsigned_from (suc more) top place (byte ∷ behind) ≡ Ok (n, rest)
unfolding unsigned_from
unsigned_more more top byte high n place behind rest is read =
    left (nat_lt byte 128) (Ok (byte, behind)) (unsigned_from more top place behind >>= grouped byte) (le-ltb byte 128 is.0)
    ∙ go (grouped byte) (high, rest) read (regroup byte high n rest is)

-- the bytes that a number takes
at_front : (bytes front these rest : List ℕ) → bytes ≡ front ++ rest → front ≡ these → bytes ≡ these ++ rest
at_front bytes front these rest parts is = parts ∙ ap (λ (m : List ℕ). m ++ rest) is

pub unsigned_again : (more top : ℕ) (place bytes front rest : List ℕ) (n : ℕ) → bytes ≡ front ++ rest → SpellsUnsigned more top n front → unsigned_from more top place bytes ≡ Ok (n, rest)
unsigned_again zero top place bytes front rest n parts laid =
    ap (unsigned_from zero top place) (at_front bytes front (n ∷ []) rest parts laid.1) ∙ unsigned_last top n place rest laid.0
unsigned_again (suc more) top place bytes front rest n parts (inl low) =
    ap (unsigned_from (suc more) top place) (at_front bytes front (n ∷ []) rest parts low.1) ∙ unsigned_low more top n place rest low.0
unsigned_again (suc more) top place bytes front rest n parts (inr (byte, high, behind, is, these, laid)) =
    ap (unsigned_from (suc more) top place) (at_front bytes front (byte ∷ behind) rest parts these)
    ∙ unsigned_more more top byte high n place (behind ++ rest) rest is (unsigned_again more top place (behind ++ rest) behind rest high refl laid)

pub u32_again : Again u32_at SpellsU32
unfolding u32_at
u32_again bytes rest n h = unsigned_again 4 16 bytes bytes h.front rest n h.parts h.laid

-- ---- signed numbers

one_power : (m : ℕ) → 1 ≤ 128 ^ m
one_power zero = omega arith
one_power (suc m) = rw pow-suc (omega (arith, one_power m))

-- numbers of more than one byte are at least 128
wide : (top more : ℕ) → 1 ≤ top → 128 ≤ top * 128 ^ suc more
wide top more some =
    let power : 128 ≤ 128 ^ suc more = rw pow-suc (omega (arith, one_power more)) in
    let product : 1 * 128 ^ suc more ≤ top * 128 ^ suc more = mul-le-mul_right (128 ^ suc more) some in
    omega (arith, power, product)

-- the last byte of a signed number that is read
last_takes : (top byte n : ℕ) (place behind rest : List ℕ)
    → (if nat_lt byte (top / 2) then found byte behind else (if not (nat_lt (byte + top / 2) 128) && nat_lt byte 128 then found (byte + top - 128) behind else refused kinds.Form place)) ≡ Ok (n, rest)
    → Front (SpellsSigned zero top n) (byte ∷ behind) rest
last_takes top byte n place behind rest e =
    elim (chosen (nat_lt byte (top / 2)) (found byte behind) (if not (nat_lt (byte + top / 2) 128) && nat_lt byte 128 then found (byte + top - 128) behind else refused kinds.Form place) (Ok (n, rest)) e) [
      | inl low ↦
          let same = same_found low.1 in
          alone (SpellsSigned zero top n) byte n behind rest same.0 same.1 (inl (omega (arith, ltb-true byte (top / 2) low.0, same.0), refl))
      | inr high ↦
          let test = succeeds (not (nat_lt (byte + top / 2) 128) && nat_lt byte 128) kinds.Form place (byte + top - 128, behind) (n, rest) high.1 in
          let same = same_found (ap (λ (x : ℕ × List ℕ). found x.0 x.1) test.1) in
          let parts = and_parts (not (nat_lt (byte + top / 2) 128)) (nat_lt byte 128) test.0 in
          let sign : 128 ≤ byte + top / 2 = ltb-false (byte + top / 2) 128 (not-true (nat_lt (byte + top / 2) 128) parts.0) in
          let small : byte < 128 = ltb-true byte 128 parts.1 in
          let laid : SpellsSigned zero top n (byte ∷ []) = inr (byte, sign, (small, omega (arith, sign, same.0)), refl) in
          record { front = byte ∷ []; parts = ap (λ (bs : List ℕ). byte ∷ bs) same.1; laid = laid }
    ]

-- the bytes of a signed number that is read, if others may follow the first
more_takes : (more top byte n : ℕ) (place behind rest : List ℕ) → 1 ≤ top
    → (if nat_lt byte 64 then found byte behind else (if nat_lt byte 128 then found (byte + top * 128 ^ suc more - 128) behind else (signed_from more top place behind >>= grouped byte))) ≡ Ok (n, rest)
    → ((high : ℕ) → signed_from more top place behind ≡ Ok (high, rest) → Front (SpellsSigned more top high) behind rest)
    → Front (SpellsSigned (suc more) top n) (byte ∷ behind) rest
more_takes more top byte n place behind rest some e inner =
    elim (chosen (nat_lt byte 64) (found byte behind) (if nat_lt byte 128 then found (byte + top * 128 ^ suc more - 128) behind else (signed_from more top place behind >>= grouped byte)) (Ok (n, rest)) e) [
      | inl low ↦
          let same = same_found low.1 in
          alone (SpellsSigned (suc more) top n) byte n behind rest same.0 same.1 (inl (omega (arith, ltb-true byte 64 low.0, same.0), refl))
      | inr high ↦
          elim (chosen (nat_lt byte 128) (found (byte + top * 128 ^ suc more - 128) behind) (signed_from more top place behind >>= grouped byte) (Ok (n, rest)) high.1) [
            | inl below ↦
                let same = same_found below.1 in
                let signed : 64 ≤ byte = ltb-false byte 64 high.0 in
                let small : byte < 128 = ltb-true byte 128 below.0 in
                let laid : SpellsSigned (suc more) top n (byte ∷ []) = inr (inl (byte, signed, (small, omega (arith, wide top more some, same.0)), refl)) in
                record { front = byte ∷ []; parts = ap (λ (bs : List ℕ). byte ∷ bs) same.1; laid = laid }
            | inr group ↦ grouped_takes (SpellsSigned more top) (SpellsSigned (suc more) top) byte behind rest n (signed_from more top place behind) group.1 inner
                (λ m front is laid. inr (inr (byte, m, front, (ltb-false byte 128 group.0, omega (arith, is, ltb-false byte 128 group.0)), refl, laid)))
          ]
    ]

pub signed_takes : (more top : ℕ) (place bytes rest : List ℕ) (n : ℕ) → 1 ≤ top → signed_from more top place bytes ≡ Ok (n, rest) → Front (SpellsSigned more top n) bytes rest
unfolding signed_from
signed_takes zero top place [] rest n some e = absurd cc
signed_takes (suc more) top place [] rest n some e = absurd cc
signed_takes zero top place (byte ∷ behind) rest n some e = last_takes top byte n place behind rest e
signed_takes (suc more) top place (byte ∷ behind) rest n some e =
    more_takes more top byte n place behind rest some e (λ high is. signed_takes more top place behind rest high some is)

pub i32_takes : Takes i32_at SpellsI32
unfolding i32_at
i32_takes bytes rest n e = signed_takes 4 16 bytes bytes rest n (omega arith) e

pub i64_takes : Takes i64_at SpellsI64
unfolding i64_at
i64_takes bytes rest n e = signed_takes 9 2 bytes bytes rest n (omega arith) e

signed_last : (top n : ℕ) (place rest : List ℕ) → n < top / 2 → signed_from zero top place (n ∷ rest) ≡ Ok (n, rest)
unfolding signed_from
signed_last top n place rest small =
    taken (nat_lt n (top / 2)) (Ok (n, rest)) (if not (nat_lt (n + top / 2) 128) && nat_lt n 128 then found (n + top - 128) rest else refused kinds.Form place) (lt-ltb n (top / 2) small)

same_number : (m n : ℕ) (rest : List ℕ) → m ≡ n → (found m rest) ≡ Ok (n, rest)
same_number m n rest is = ap (λ (k : ℕ). found k rest) is

signed_last_below : (top byte n : ℕ) (place rest : List ℕ) → top ≤ 128 → 128 ≤ byte + top / 2 → byte < 128 → n + 128 ≡ byte + top → signed_from zero top place (byte ∷ rest) ≡ Ok (n, rest)
unfolding signed_from
signed_last_below top byte n place rest few sign small is =
    left (nat_lt byte (top / 2)) (Ok (byte, rest)) (if not (nat_lt (byte + top / 2) 128) && nat_lt byte 128 then found (byte + top - 128) rest else refused kinds.Form place) (le-ltb byte (top / 2) (omega (arith, few, sign, small)))
    ∙ (taken (not (nat_lt (byte + top / 2) 128) && nat_lt byte 128) (Ok (byte + top - 128, rest)) (refused kinds.Form place)
    (and_from (not (nat_lt (byte + top / 2) 128)) (nat_lt byte 128) (not_from_false (nat_lt (byte + top / 2) 128) (le-ltb (byte + top / 2) 128 sign)) (lt-ltb byte 128 small))
    ∙ same_number (byte + top - 128) n rest (omega (arith, is)))

signed_low : (more top n : ℕ) (place rest : List ℕ) → n < 64 → signed_from (suc more) top place (n ∷ rest) ≡ Ok (n, rest)
unfolding signed_from
signed_low more top n place rest small =
    taken (nat_lt n 64) (Ok (n, rest)) (if nat_lt n 128 then found (n + top * 128 ^ suc more - 128) rest else (signed_from more top place rest >>= grouped n)) (lt-ltb n 64 small)

signed_below : (more top byte n : ℕ) (place rest : List ℕ) → 64 ≤ byte → byte < 128 → n + 128 ≡ byte + top * 128 ^ suc more → signed_from (suc more) top place (byte ∷ rest) ≡ Ok (n, rest)
unfolding signed_from
signed_below more top byte n place rest sign small is =
    left (nat_lt byte 64) (Ok (byte, rest)) (if nat_lt byte 128 then found (byte + top * 128 ^ suc more - 128) rest else (signed_from more top place rest >>= grouped byte)) (le-ltb byte 64 sign)
    ∙ (taken (nat_lt byte 128) (Ok (byte + top * 128 ^ suc more - 128, rest)) (signed_from more top place rest >>= grouped byte) (lt-ltb byte 128 small)
    ∙ same_number (byte + top * 128 ^ suc more - 128) n rest (omega (arith, is)))

signed_more : (more top byte high n : ℕ) (place behind rest : List ℕ) → IsGroup byte high n → signed_from more top place behind ≡ Ok (high, rest) → signed_from (suc more) top place (byte ∷ behind) ≡ Ok (n, rest)
unfolding signed_from
signed_more more top byte high n place behind rest is read =
    left (nat_lt byte 64) (Ok (byte, behind)) (if nat_lt byte 128 then found (byte + top * 128 ^ suc more - 128) behind else (signed_from more top place behind >>= grouped byte)) (le-ltb byte 64 (omega (arith, is.0)))
    ∙ (left (nat_lt byte 128) (Ok (byte + top * 128 ^ suc more - 128, behind)) (signed_from more top place behind >>= grouped byte) (le-ltb byte 128 is.0)
    ∙ go (grouped byte) (high, rest) read (regroup byte high n rest is))

pub signed_again : (more top : ℕ) (place bytes front rest : List ℕ) (n : ℕ) → top ≤ 128 → bytes ≡ front ++ rest → SpellsSigned more top n front → signed_from more top place bytes ≡ Ok (n, rest)
signed_again zero top place bytes front rest n few parts (inl low) =
    ap (signed_from zero top place) (at_front bytes front (n ∷ []) rest parts low.1) ∙ signed_last top n place rest low.0
signed_again zero top place bytes front rest n few parts (inr (byte, sign, below, these)) =
    ap (signed_from zero top place) (at_front bytes front (byte ∷ []) rest parts these) ∙ signed_last_below top byte n place rest few sign below.0 below.1
signed_again (suc more) top place bytes front rest n few parts (inl low) =
    ap (signed_from (suc more) top place) (at_front bytes front (n ∷ []) rest parts low.1) ∙ signed_low more top n place rest low.0
signed_again (suc more) top place bytes front rest n few parts (inr (inl (byte, sign, below, these))) =
    ap (signed_from (suc more) top place) (at_front bytes front (byte ∷ []) rest parts these) ∙ signed_below more top byte n place rest sign below.0 below.1
signed_again (suc more) top place bytes front rest n few parts (inr (inr (byte, high, behind, is, these, laid))) =
    ap (signed_from (suc more) top place) (at_front bytes front (byte ∷ behind) rest parts these)
    ∙ signed_more more top byte high n place (behind ++ rest) rest is (signed_again more top place (behind ++ rest) behind rest high few refl laid)

pub i32_again : Again i32_at SpellsI32
unfolding i32_at
i32_again bytes rest n h = signed_again 4 16 bytes bytes h.front rest n (omega arith) h.parts h.laid

pub i64_again : Again i64_at SpellsI64
unfolding i64_at
i64_again bytes rest n h = signed_again 9 2 bytes bytes h.front rest n (omega arith) h.parts h.laid
