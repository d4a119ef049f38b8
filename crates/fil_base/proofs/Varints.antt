-- A number of varying length, byte by byte.
use Rattle.std.proofs.Common.{suc, zero, set, take, drop, below_more, ◌≡◌, ℕ, ◌+◌, ◌-◌, ◌*◌, ◌/◌, ◌%◌, ◌^◌, ◌<◌, ◌≤◌, List, [], ◌∷◌, ◌++◌, length, get_or, reverse, inl, inr, refl, sym, ap, subst, ◌∙◌, append_assoc, lit<, lit≤, arith}
use Rattle.std.specs.Int.Digits.{digits_of}
use Rattle.std.proofs.lemmas.Int.Digits.{digits_of_step, length-digits_of_step}
use Rattle.std.proofs.lemmas.Bool.{cases_lt, cases_order}
use Rattle.std.proofs.lemmas.List.{length-take, length-take-le, get_or_append_left, get_or_default, reverse-append, length-append, length-reverse, get_or_at, get_or-take, take-append-drop, take_more, take_more_set}
use Rattle.std.proofs.lemmas.Nat.{mul-add-lt, pow-add, shl_whole}
use Rattle.std.proofs.Math.Nat.{pow-le-pow_right}
use Rattle.std.proofs.Math.Dec.{eqb-suc-zero}
use Rattle.fil_base.specs.Varint.{varint, with_top_bits}
use Rattle.fil_base.specs.VarintFault.{FoundVarint, IsVarintFault, HaveTopBits}
use Rattle.fil_base.specs.declared.varint.VarintFault.{VarintFault}
use Rattle.fil_base.specs.declared.varint.VarintFault.TheVariants.{Cut, TooLong, NotShortest}

varint-positive : (n : ℕ) → 0 < n → varint n ≡ with_top_bits (reverse (digits_of 128 n))
unfolding varint
varint-positive zero positive = absurd (omega arith)
varint-positive (suc n) positive = rw eqb-suc-zero refl

-- the groups of a number, the lowest first
groups-step : (n : ℕ) → 0 < n → reverse (digits_of 128 n) ≡ (n % 128) ∷ reverse (digits_of 128 (n / 128))
groups-step n positive =
    ap reverse (digits_of_step 128 n (lit≤ tt) positive) ∙ reverse-append (digits_of 128 (n / 128)) (n % 128 ∷ [])

pub varint-small : (n : ℕ) → n < 128 → varint n ≡ n ∷ []
unfolding varint
varint-small zero small = refl
varint-small (suc n) small =
    let high : suc n / 128 ≡ 0 = omega arith in
    let low : suc n % 128 ≡ suc n = omega arith in
    varint-positive (suc n) (omega arith) ∙ (ap with_top_bits (groups-step (suc n) (omega arith)) ∙ (λ i. with_top_bits (low i ∷ reverse (digits_of 128 (high i)))))

top_bit_before : (group : ℕ) (groups : List ℕ) → 0 < length groups → with_top_bits (group ∷ groups) ≡ (128 + group) ∷ with_top_bits groups
top_bit_before group [] more = absurd (omega arith)
top_bit_before group (next ∷ groups) more = refl

groups_are : (n : ℕ) → 0 < n → 0 < length (reverse (digits_of 128 n))
groups_are n positive =
    omega (arith, length-reverse (digits_of 128 n), length-digits_of_step 128 n (lit≤ tt) positive)

pub varint-more : (n : ℕ) → 128 ≤ n → varint n ≡ (128 + n % 128) ∷ varint (n / 128)
varint-more n great =
    let more : 0 < n / 128 = omega arith in
    varint-positive n (omega arith) ∙ (ap with_top_bits (groups-step n (omega arith)) ∙ (top_bit_before (n % 128) (reverse (digits_of 128 (n / 128))) (groups_are (n / 128) more) ∙ ap (λ bytes. (128 + n % 128) ∷ bytes) (sym (varint-positive (n / 128) more))))

-- a fact of each number, from the small ones and from the number without its lowest group
groups_within : (P : ℕ → Type 0) → ((n : ℕ) → n < 128 → P n) → ((n : ℕ) → 128 ≤ n → P (n / 128) → P n) → (bound n : ℕ) → n ≤ bound → P n
groups_within P small more zero n within = small n (omega arith)
groups_within P small more (suc bound) n within =
    elim (cases_lt n 128) [
      | inl is_small ↦ small n is_small
      | inr great ↦ more n great (groups_within P small more bound (n / 128) (omega arith))
    ]

by_groups : (P : ℕ → Type 0) → ((n : ℕ) → n < 128 → P n) → ((n : ℕ) → 128 ≤ n → P (n / 128) → P n) → (n : ℕ) → P n
by_groups P small more n = groups_within P small more n n (omega arith)

abbrev BeginsNoOther : ℕ → Type 0
BeginsNoOther m = (n : ℕ) (r s : List ℕ) → varint m ++ r ≡ varint n ++ s → (m ≡ n) × (r ≡ s)

begins_small : (m : ℕ) → m < 128 → BeginsNoOther m
begins_small m small n r s same =
    let left : m ∷ r ≡ varint n ++ s = sym (ap (λ b. b ++ r) (varint-small m small)) ∙ same in
    elim (cases_lt n 128) [
      | inl small_n ↦ (let both : m ∷ r ≡ n ∷ s = left ∙ ap (λ b. b ++ s) (varint-small n small_n) in (cc, cc))
      | inr great_n ↦ absurd (let both : m ∷ r ≡ (128 + n % 128) ∷ (varint (n / 128) ++ s) = left ∙ ap (λ b. b ++ s) (varint-more n great_n) in let first : m ≡ 128 + n % 128 = cc in omega arith)
    ]

begins_more : (m : ℕ) → 128 ≤ m → BeginsNoOther (m / 128) → BeginsNoOther m
begins_more m great before n r s same =
    let left : (128 + m % 128) ∷ (varint (m / 128) ++ r) ≡ varint n ++ s = sym (ap (λ b. b ++ r) (varint-more m great)) ∙ same in
    elim (cases_lt n 128) [
      | inl small_n ↦ absurd (let both : (128 + m % 128) ∷ (varint (m / 128) ++ r) ≡ n ∷ s = left ∙ ap (λ b. b ++ s) (varint-small n small_n) in let first : 128 + m % 128 ≡ n = cc in omega arith)
      | inr great_n ↦
          let both : (128 + m % 128) ∷ (varint (m / 128) ++ r) ≡ (128 + n % 128) ∷ (varint (n / 128) ++ s) = left ∙ ap (λ b. b ++ s) (varint-more n great_n) in
          let lows : 128 + m % 128 ≡ 128 + n % 128 = cc in
          let rests : varint (m / 128) ++ r ≡ varint (n / 128) ++ s = cc in
          let highs = before (n / 128) r s rests in
          (omega (arith, highs.0), highs.1)
    ]

-- no spelling begins another
pub same_varints : (m n : ℕ) (r s : List ℕ) → varint m ++ r ≡ varint n ++ s → (m ≡ n) × (r ≡ s)
same_varints m = by_groups BeginsNoOther begins_small begins_more m

-- a spelling is bytes with their top bit and a last one without, which is above 0 unless the number is
record Ends (n : ℕ) : Type 0 where
  front : List ℕ
  last : ℕ
  is : varint n ≡ front ++ (last ∷ [])
  tops : HaveTopBits front
  low : last < 128
  positive : 0 < n → 0 < last
  more : 0 < length front → 0 < n
  short : (k : ℕ) → n < 128 ^ (suc k) → length front ≤ k

tops-cons : (byte : ℕ) (front : List ℕ) → 128 ≤ byte → HaveTopBits front → HaveTopBits (byte ∷ front)
tops-cons byte front top tops zero d within = top
tops-cons byte front top tops (suc k) d within = tops k d (omega arith)

ends_small : (n : ℕ) → n < 128 → Ends n
ends_small n small = record {
  front = [];
  last = n;
  is = varint-small n small;
  tops = λ k d within. absurd (omega arith);
  low = small;
  positive = λ h. h;
  more = λ h. absurd (omega arith);
  short = λ k h. omega arith;
}

shorter : (n k : ℕ) → n < 128 ^ (suc (suc k)) → n / 128 < 128 ^ (suc k)
shorter n k small = omega arith

short_more : (n len : ℕ) → 128 ≤ n → ((k : ℕ) → n / 128 < 128 ^ (suc k) → len ≤ k) → (k : ℕ) → n < 128 ^ (suc k) → suc len ≤ k
short_more n len great short zero small = absurd (omega arith)
short_more n len great short (suc k) small = omega (arith, short k (shorter n k small))

ends_more : (n : ℕ) → 128 ≤ n → Ends (n / 128) → Ends n
ends_more n great before = record {
  front = (128 + n % 128) ∷ before.front;
  last = before.last;
  is = varint-more n great ∙ ap (λ bytes. (128 + n % 128) ∷ bytes) before.is;
  tops = tops-cons (128 + n % 128) before.front (omega arith) before.tops;
  low = before.low;
  positive = λ h. before.positive (omega arith);
  more = λ h. omega arith;
  short = short_more n (length before.front) great before.short;
}

ends : (n : ℕ) → Ends n
ends n = by_groups Ends ends_small ends_more n

-- the byte behind the front
behind : (bytes front : List ℕ) (byte : ℕ) (rest : List ℕ) → bytes ≡ front ++ (byte ∷ rest) → (get_or bytes (length front) 0 ≡ byte) × (length front < length bytes)
behind bytes front byte rest is =
    (ap (λ b. get_or b (length front) 0) is ∙ get_or_at front byte rest 0 (length front) refl, omega (arith, ap length is, length-append front (byte ∷ rest)))

-- the bytes of the front
in_front : (bytes front rest : List ℕ) (k : ℕ) → bytes ≡ front ++ rest → HaveTopBits front → k < length front → 128 ≤ get_or bytes k 0
in_front bytes front rest k is tops within =
    subst (λ byte. 128 ≤ byte) (sym (ap (λ b. get_or b k 0) is ∙ get_or_append_left front rest 0 k within)) (tops k 0 within)

-- the first byte without its top bit, if it is among the first nine, is found at one place
record LowAt (bytes : List ℕ) (k byte : ℕ) : Type 0 where
  within : k < length bytes
  near : k < 9
  is : get_or bytes k 0 ≡ byte
  low : byte < 128
  before : (j : ℕ) → j < k → 128 ≤ get_or bytes j 0

spelled_low : (bytes : List ℕ) (n : ℕ) (rest : List ℕ) → n < 2 ^ 63 → bytes ≡ varint n ++ rest → (k : ℕ) × (byte : ℕ) × LowAt bytes k byte × (0 < k → 0 < byte)
spelled_low bytes n rest small is =
    let e = ends n in
    let split : bytes ≡ e.front ++ (e.last ∷ rest) = is ∙ (ap (λ b. b ++ rest) e.is ∙ append_assoc e.front (e.last ∷ []) rest) in
    let at = behind bytes e.front e.last rest split in
    (length e.front, e.last, record { within = at.1; near = omega (arith, e.short 8 small); is = at.0; low = e.low; before = λ j h. in_front bytes e.front (e.last ∷ rest) j split e.tops h }, λ h. e.positive (e.more h))

zero_low : (bytes : List ℕ) → IsVarintFault bytes NotShortest → (k : ℕ) × LowAt bytes k 0 × (0 < k)
zero_low bytes (front, rest, is, more, near, tops) =
    let at = behind bytes front 0 rest is in
    (length front, record { within = at.1; near = near; is = at.0; low = lit< tt; before = λ j h. in_front bytes front (0 ∷ rest) j is tops h }, more)

low_at_one : (bytes : List ℕ) (j k a b : ℕ) → LowAt bytes j a → LowAt bytes k b → (j ≡ k) × (a ≡ b)
low_at_one bytes j k a b x y =
    let first : j ≡ k = elim (cases_order j k) [
      | inl same ↦ same
      | inr (inl below) ↦ absurd (omega (arith, y.before j below, x.is, x.low))
      | inr (inr above) ↦ absurd (omega (arith, x.before k above, y.is, y.low))
    ] in
    (first, sym x.is ∙ (ap (λ i. get_or bytes i 0) first ∙ y.is))

cut_low : (bytes : List ℕ) (k byte : ℕ) → IsVarintFault bytes Cut → LowAt bytes k byte → ⊥
cut_low bytes k byte fault at = omega (arith, fault.1 k 0 at.within, at.is, at.low)

long_low : (bytes : List ℕ) (k byte : ℕ) → IsVarintFault bytes TooLong → LowAt bytes k byte → ⊥
long_low bytes k byte fault at =
    omega (arith, fault.1 k 0 (omega (arith, length-take 9 bytes, at.near)), get_or-take 9 bytes k 0 at.near, at.is, at.low)

-- where there is a fault, no number is spelled
pub fault_spells_none : (bytes : List ℕ) (fault : VarintFault) (n : ℕ) (rest : List ℕ) → IsVarintFault bytes fault → n < 2 ^ 63 → bytes ≡ varint n ++ rest → ⊥
fault_spells_none bytes Cut n rest fault small is = let found = spelled_low bytes n rest small is in cut_low bytes found.0 found.1 fault found.2
fault_spells_none bytes TooLong n rest fault small is = let found = spelled_low bytes n rest small is in long_low bytes found.0 found.1 fault found.2
fault_spells_none bytes NotShortest n rest fault small is =
    let found = spelled_low bytes n rest small is in
    let bad = zero_low bytes fault in
    let one = low_at_one bytes bad.0 found.0 0 found.1 bad.1 found.2 in
    omega (arith, found.3 (omega (arith, one.0, bad.2)), one.1)

-- bytes have one fault at most
pub one_varint_fault : (bytes : List ℕ) (f g : VarintFault) → IsVarintFault bytes f → IsVarintFault bytes g → f ≡ g
one_varint_fault bytes Cut Cut x y = refl
one_varint_fault bytes Cut TooLong x y = absurd (omega (arith, x.0, y.0))
one_varint_fault bytes Cut NotShortest x y = let bad = zero_low bytes y in absurd (cut_low bytes bad.0 0 x bad.1)
one_varint_fault bytes TooLong Cut x y = absurd (omega (arith, x.0, y.0))
one_varint_fault bytes TooLong TooLong x y = refl
one_varint_fault bytes TooLong NotShortest x y = let bad = zero_low bytes y in absurd (long_low bytes bad.0 0 x bad.1)
one_varint_fault bytes NotShortest Cut x y = let bad = zero_low bytes x in absurd (cut_low bytes bad.0 0 y bad.1)
one_varint_fault bytes NotShortest TooLong x y = let bad = zero_low bytes x in absurd (long_low bytes bad.0 0 y bad.1)
one_varint_fault bytes NotShortest NotShortest x y = refl

-- the first i bytes are read, which make this number, and another must follow
pub record ReadSoFar (bytes : List ℕ) (i number : ℕ) : Type 0 where
  pub within : i ≤ length bytes
  pub tops : (k : ℕ) → k < i → 128 ≤ get_or bytes k 0
  pub small : number < 2 ^ (7 * i)
  pub spelled : (m : ℕ) → 0 < m → varint (number + m * 2 ^ (7 * i)) ≡ take i bytes ++ varint m

pub read_none : (bytes : List ℕ) → ReadSoFar bytes 0 0
read_none bytes = record {
  within = omega arith;
  tops = λ k h. absurd (omega arith);
  small = lit< tt;
  spelled = λ m h. let e : 0 + m * 1 ≡ m = omega arith in ap varint e;
}

power_more : (i : ℕ) → 2 ^ (7 * (i + 1)) ≡ 2 ^ (7 * i) * 128
power_more i =
    let sum : 7 * (i + 1) ≡ 7 * i + 7 = omega arith in
    ap (λ k. 2 ^ k) sum ∙ pow-add 2 (7 * i) 7

read_small : (i number group : ℕ) → group < 128 → number < 2 ^ (7 * i) → number + group * 2 ^ (7 * i) < 2 ^ (7 * (i + 1))
read_small i number group low small =
    omega (arith, mul-add-lt group (2 ^ (7 * i)) number 128 low small, power_more i)

-- a number whose lowest group is in the byte
varint_of_byte : (byte m : ℕ) → 128 ≤ byte → byte < 256 → 0 < m → varint (byte % 128 + m * 128) ≡ byte ∷ varint m
varint_of_byte byte m top fits more =
    let low : 128 + (byte % 128 + m * 128) % 128 ≡ byte = omega arith in
    let high : (byte % 128 + m * 128) / 128 ≡ m = omega arith in
    varint-more (byte % 128 + m * 128) (omega arith) ∙ (λ i. low i ∷ varint (high i))

pub read_more : (bytes : List ℕ) (i number byte : ℕ) → ReadSoFar bytes i number → i < length bytes → byte ≡ get_or bytes i 0 → 128 ≤ byte → byte < 256 → ReadSoFar bytes (i + 1) (number + byte % 128 * 2 ^ (7 * i))
read_more bytes i number byte so_far within is top fits = record {
  within = omega arith;
  tops = below_more _ _ so_far.tops (omega (arith, is));
  small = read_small i number (byte % 128) (omega arith) so_far.small;
  spelled = λ m more.
      let power : m * 2 ^ (7 * (i + 1)) ≡ m * (2 ^ (7 * i) * 128) = ap (λ x. m * x) (power_more i) in
      let sum : (number + byte % 128 * 2 ^ (7 * i)) + m * 2 ^ (7 * (i + 1)) ≡ number + (byte % 128 + m * 128) * 2 ^ (7 * i) = omega (arith, power) in
      let front : take (i + 1) bytes ≡ take i bytes ++ (byte ∷ []) = take_more bytes i 0 within ∙ ap (λ b. take i bytes ++ (b ∷ [])) (sym is) in
      ap varint sum ∙ (so_far.spelled (byte % 128 + m * 128) (omega arith) ∙ (ap (λ b. take i bytes ++ b) (varint_of_byte byte m top fits more) ∙ sym (ap (λ b. b ++ varint m) front ∙ append_assoc (take i bytes) (byte ∷ []) (varint m))));
}

found_varint : (bytes : List ℕ) (i n : ℕ) → i ≤ length bytes → n < 2 ^ 63 → varint n ≡ take i bytes → FoundVarint bytes n i
found_varint bytes i n within small is = record {
  small = small;
  len_is = sym (ap length is ∙ length-take-le i bytes within);
  rest = drop i bytes;
  spelled = sym (ap (λ b. b ++ drop i bytes) is ∙ take-append-drop i bytes);
}

last_group : (bytes : List ℕ) (i number byte : ℕ) → ReadSoFar bytes i number → byte < 128 → (byte ≡ 0 → i ≡ 0) → varint (number + byte * 2 ^ (7 * i)) ≡ take i bytes ++ (byte ∷ [])
last_group bytes i number zero so_far low shortest =
    let none : i ≡ 0 = shortest refl in
    let small : number < 1 = subst (λ k. number < 2 ^ (7 * k)) none so_far.small in
    let nothing : number + 0 * 2 ^ (7 * i) ≡ 0 = omega arith in
    ap varint nothing ∙ (varint-small 0 (lit< tt) ∙ ap (λ k. take k bytes ++ (0 ∷ [])) (sym none))
last_group bytes i number (suc byte) so_far low shortest =
    so_far.spelled (suc byte) (omega arith) ∙ ap (λ b. take i bytes ++ b) (varint-small (suc byte) low)

pub read_last : (bytes : List ℕ) (i number byte : ℕ) → ReadSoFar bytes i number → i < 9 → i < length bytes → byte ≡ get_or bytes i 0 → byte < 128 → (byte ≡ 0 → i ≡ 0) → FoundVarint bytes (number + byte % 128 * 2 ^ (7 * i)) (i + 1)
read_last bytes i number byte so_far near within is low shortest =
    let group : byte % 128 ≡ byte = omega arith in
    let bits : 7 * (i + 1) ≤ 63 = omega arith in
    let power : 2 ^ (7 * (i + 1)) ≤ 2 ^ 63 = pow-le-pow_right (lit< tt) bits in
    found_varint bytes (i + 1) (number + byte % 128 * 2 ^ (7 * i)) (omega arith) (omega (arith, read_small i number (byte % 128) (omega arith) so_far.small, power))
    (ap (λ g. varint (number + g * 2 ^ (7 * i))) group ∙ (last_group bytes i number byte so_far low shortest ∙ sym (take_more bytes i 0 within ∙ ap (λ b. take i bytes ++ (b ∷ [])) (sym is))))

pub read_cut : (bytes : List ℕ) (i number : ℕ) → ReadSoFar bytes i number → i < 9 → i ≡ length bytes → IsVarintFault bytes Cut
read_cut bytes i number so_far near all =
    (omega arith, λ k d within. subst (λ byte. 128 ≤ byte) (get_or_default bytes k 0 d within) (so_far.tops k (omega arith)))

top_bits_of_front : (bytes : List ℕ) (i number : ℕ) → ReadSoFar bytes i number → HaveTopBits (take i bytes)
top_bits_of_front bytes i number so_far = λ k d within.
    let near : k < i = omega (arith, length-take i bytes) in
    subst (λ byte. 128 ≤ byte) (get_or_default bytes k 0 d (omega (arith, so_far.within)) ∙ sym (get_or-take i bytes k d near)) (so_far.tops k near)

pub read_long : (bytes : List ℕ) (number : ℕ) → ReadSoFar bytes 9 number → IsVarintFault bytes TooLong
read_long bytes number so_far = (so_far.within, top_bits_of_front bytes 9 number so_far)

pub read_not_shortest : (bytes : List ℕ) (i number byte : ℕ) → ReadSoFar bytes i number → i < 9 → i < length bytes → byte ≡ get_or bytes i 0 → byte ≡ 0 → 0 < i → IsVarintFault bytes NotShortest
read_not_shortest bytes i number byte so_far near within is nothing more =
    let len : length (take i bytes) ≡ i = length-take-le i bytes so_far.within in
    let last : take (i + 1) bytes ≡ take i bytes ++ (0 ∷ []) = take_more bytes i 0 within ∙ ap (λ b. take i bytes ++ (b ∷ [])) (sym is ∙ nothing) in
    (take i bytes, drop (i + 1) bytes, sym (take-append-drop (i + 1) bytes) ∙ (ap (λ b. b ++ drop (i + 1) bytes) last ∙ append_assoc (take i bytes) (0 ∷ []) (drop (i + 1) bytes)), omega (arith, len), omega (arith, len), top_bits_of_front bytes i number so_far)

-- a group of seven bits loses nothing where it is shifted to its place
pub shifted : (i byte group : ℕ) → i < 9 → group ≡ byte % 128 → group * 2 ^ (7 * i) % 18446744073709551616 ≡ byte % 128 * 2 ^ (7 * i)
shifted i byte group near is =
    shl_whole group 7 (7 * i) 64 (omega (arith, is)) (omega arith) ∙ ap (λ g. g * 2 ^ (7 * i)) is

pub read_fits : (bytes : List ℕ) (i number byte group : ℕ) → ReadSoFar bytes i number → i < 9 → group ≡ byte % 128 → number + group * 2 ^ (7 * i) % 18446744073709551616 < 2 ^ 63
read_fits bytes i number byte group so_far near is =
    let bits : 7 * (i + 1) ≤ 63 = omega arith in
    let power : 2 ^ (7 * (i + 1)) ≤ 2 ^ 63 = pow-le-pow_right (lit< tt) bits in
    omega (arith, shifted i byte group near is, read_small i number (byte % 128) (omega arith) so_far.small, power)

-- one byte more is written
pub write_more : (bytes : List ℕ) (n len left : ℕ) → len ≤ 8 → length bytes ≡ 9 → 128 ≤ left → take len bytes ++ varint left ≡ varint n → take (len + 1) (set bytes len (left % 128 + 128)) ++ varint (left / 128) ≡ varint n
write_more bytes n len left within size great is =
    let front : take (len + 1) (set bytes len (left % 128 + 128)) ≡ take len bytes ++ ((left % 128 + 128) ∷ []) = take_more_set bytes len (left % 128 + 128) (omega arith) in
    let order : left % 128 + 128 ≡ 128 + left % 128 = omega arith in
    ap (λ b. b ++ varint (left / 128)) front ∙ (append_assoc (take len bytes) ((left % 128 + 128) ∷ []) (varint (left / 128)) ∙ (ap (λ b. take len bytes ++ (b ∷ varint (left / 128))) order ∙ (ap (λ b. take len bytes ++ b) (sym (varint-more left great)) ∙ is)))

left_by : (k left : ℕ) → 128 ≤ left → left < 128 ^ (suc k) → (0 < k) × (left / 128 < 128 ^ k)
left_by zero left great small = absurd (omega arith)
left_by (suc k) left great small = (omega arith, omega arith)

-- what is left to write gets smaller as the bytes do
pub left_more : (len left : ℕ) → len ≤ 8 → 128 ≤ left → left < 128 ^ (9 - len) → (len + 1 ≤ 8) × (left / 128 < 128 ^ (9 - (len + 1)))
left_more len left within great small =
    let before : 9 - len ≡ suc (8 - len) = omega arith in
    let after : 8 - len ≡ 9 - (len + 1) = omega arith in
    let by = left_by (8 - len) left great (subst (λ k. left < 128 ^ k) before small) in
    (omega (arith, by.0), subst (λ k. left / 128 < 128 ^ k) after by.1)

pub write_last : (bytes : List ℕ) (n len left : ℕ) → len ≤ 8 → length bytes ≡ 9 → left < 128 → take len bytes ++ varint left ≡ varint n → take (len + 1) (set bytes len left) ≡ varint n
write_last bytes n len left within size small is =
    take_more_set bytes len left (omega arith) ∙ (ap (λ b. take len bytes ++ b) (sym (varint-small left small)) ∙ is)
