-- The digits of a number in base 256 are the digits that it was made of.
use Rattle.std.proofs.Common.{suc, zero, set, take, drop, ◌-◌, ◌≡◌, ℕ, ◌+◌, ◌*◌, ◌/◌, ◌%◌, ◌^◌, ◌<◌, ◌≤◌, List, [], ◌∷◌, ◌++◌, length, get_or, Option, None, Some, Result, MatchResult, ◌⊎◌, inl, inr, refl, sym, ap, subst, ◌∙◌, append_assoc, lit<, lit≤, arith}
use Rattle.std.specs.Int.Digits.{digits_of, number_from_digits, number_from_digits_after, AllBelowBase}
use Rattle.std.specs.Option.{SomeIff, ok_or}
use Rattle.std.proofs.lemmas.Int.Digits.{digits_of_step, length-digits_of-le, number_after_ge, number_lt, same_from_digits_of, first_digits_of}
use Rattle.std.proofs.lemmas.Bool.{cases_lt}
use Rattle.std.proofs.lemmas.List.{append-nil, drop-set, length-take}
use Rattle.std.proofs.Math.Nat.{pow-le-pow_right}
use Rattle.std.proofs.Math.Dec.{eqb-suc-zero}
use Rattle.fil_base.specs.declared.token.TheConstants.{GREATEST_AMOUNT}
use Rattle.fil_base.specs.declared.amount.TokenFault.{TokenFault}
use Rattle.fil_base.specs.declared.amount.TokenFault.TheVariants.{Sign, Zeros, TooGreat}
use Rattle.fil_base.specs.Amount.{amount, IsTokenFault}

pub all_below : (ds : List ℕ) → ((i : ℕ) → get_or ds i 0 < 256) → AllBelowBase 256 ds
all_below [] h = tt
all_below (d ∷ ds) h = (h 0, all_below ds (λ i. h (suc i)))

digits_of_more : (n d : ℕ) → 0 < n * 256 + d → d < 256 → digits_of 256 (n * 256 + d) ≡ digits_of 256 n ++ (d ∷ [])
digits_of_more n d positive below =
    let high : (n * 256 + d) / 256 ≡ n = omega arith in
    let low : (n * 256 + d) % 256 ≡ d = omega arith in
    digits_of_step 256 (n * 256 + d) (omega arith) positive ∙ (λ i. digits_of 256 (high i) ++ (low i ∷ []))

digits_of_after : (n : ℕ) (ds : List ℕ) → 0 < n → AllBelowBase 256 ds → digits_of 256 (number_from_digits_after 256 n ds) ≡ digits_of 256 n ++ ds
digits_of_after n [] positive below = sym (append-nil (digits_of 256 n))
digits_of_after n (d ∷ ds) positive below =
    let more : 0 < n * 256 + d = omega arith in
    digits_of_after (n * 256 + d) ds more below.1 ∙ (ap (λ front. front ++ ds) (digits_of_more n d more below.0) ∙ append_assoc (digits_of 256 n) (d ∷ []) ds)

pub digits_of-number : (ds : List ℕ) → AllBelowBase 256 ds → 0 < get_or ds 0 0 → digits_of 256 (number_from_digits 256 ds) ≡ ds
digits_of-number [] below positive = refl
digits_of-number (d ∷ ds) below positive =
    digits_of_after (0 * 256 + d) ds (omega arith) below.1 ∙ ap (λ front. front ++ ds) (digits_of_more 0 d (omega arith) below.0)

le_lt_trans : {a b c : ℕ} → a ≤ b → b < c → a < c
le_lt_trans h k = omega arith

-- more than twelve digits make more than the greatest amount
pub number_is_great : (ds : List ℕ) → AllBelowBase 256 ds → 0 < get_or ds 0 0 → 12 < length ds → GREATEST_AMOUNT < number_from_digits 256 ds
number_is_great ds below positive long =
    elim (cases_lt GREATEST_AMOUNT (number_from_digits 256 ds)) [
      | inl great ↦ great
      | inr small ↦
          let few : length (digits_of 256 (number_from_digits 256 ds)) ≤ 12 = length-digits_of-le 256 12 (number_from_digits 256 ds) (lit≤ tt) (le_lt_trans small (lit< tt)) in
          absurd (omega (arith, ap length (digits_of-number ds below positive)))
    ]

-- a number with a first digit above 0 is above 0
number_is_positive : (ds : List ℕ) → 0 < get_or ds 0 0 → 0 < number_from_digits 256 ds
number_is_positive [] positive = positive
number_is_positive (d ∷ ds) positive = omega (arith, number_after_ge 256 (0 * 256 + d) ds (lit< tt))

pub amount-positive : (n : ℕ) → 0 < n → amount n ≡ 0 ∷ digits_of 256 n
unfolding amount
amount-positive zero positive = absurd (omega arith)
amount-positive (suc n) positive = rw eqb-suc-zero refl

-- the sign and digits spell the number that they make
pub amount-number : (ds : List ℕ) → AllBelowBase 256 ds → 0 < get_or ds 0 0 → 0 ∷ ds ≡ amount (number_from_digits 256 ds)
amount-number ds below positive =
    sym (amount-positive _ (number_is_positive ds positive) ∙ ap (λ digits. 0 ∷ digits) (digits_of-number ds below positive))

pub number_too_great : (ds : List ℕ) → AllBelowBase 256 ds → 0 < get_or ds 0 0 → 12 < length ds → IsTokenFault (0 ∷ ds) TooGreat
number_too_great ds below positive long = (number_from_digits 256 ds, number_is_great ds below positive long, amount-number ds below positive)

-- the answer at the number of the digits, as `Token::new` tests it
pub token_at : (ds : List ℕ) (n : ℕ) (tested : Option ℕ) (result : Result ℕ TokenFault) → AllBelowBase 256 ds → 0 < get_or ds 0 0 → n ≡ number_from_digits 256 ds → SomeIff tested (n ≤ GREATEST_AMOUNT) n → result ≡ ok_or tested TooGreat → MatchResult result (λ t. 0 ∷ ds ≡ amount t) (IsTokenFault (0 ∷ ds))
token_at ds n None result below positive is tests gives =
    let P : Result ℕ TokenFault → Type 0 = λ r. MatchResult r (λ t. 0 ∷ ds ≡ amount t) (IsTokenFault (0 ∷ ds)) in
    subst P (sym gives) (number_from_digits 256 ds, subst (λ m. GREATEST_AMOUNT < m) is (elim (cases_lt GREATEST_AMOUNT n) [ inl great ↦ great | inr small ↦ absurd (tests small) ]), amount-number ds below positive)
token_at ds n (Some t) result below positive is tests gives =
    let P : Result ℕ TokenFault → Type 0 = λ r. MatchResult r (λ t. 0 ∷ ds ≡ amount t) (IsTokenFault (0 ∷ ds)) in
    subst P (sym gives) (amount-number ds below positive ∙ ap amount (sym is ∙ sym tests.1))

take_below : (i : ℕ) (ds : List ℕ) → AllBelowBase 256 ds → AllBelowBase 256 (take i ds)
take_below zero ds below = tt
take_below (suc i) [] below = tt
take_below (suc i) (d ∷ ds) below = (below.0, take_below i ds below.1)

-- the number of the first eleven digits has 88 bits
pub first_digits_fit : (ds : List ℕ) (i n : ℕ) → AllBelowBase 256 ds → i ≤ 11 → n ≡ number_from_digits 256 (take i ds) → n < 2 ^ 88
first_digits_fit ds i n below few is =
    let short : length (take i ds) ≤ 11 = omega (arith, length-take i ds) in
    let power : 256 ^ length (take i ds) ≤ 2 ^ 88 = pow-le-pow_right (lit< tt) short in
    omega (arith, number_lt 256 (take i ds) (take_below i ds below), power)

-- nothing spells 0, and the sign and digits every other number
amount_cases : (n : ℕ) → ((n ≡ 0) × (amount n ≡ [])) ⊎ ((0 < n) × (amount n ≡ 0 ∷ digits_of 256 n))
unfolding amount
amount_cases zero = inl (refl, refl)
amount_cases (suc n) = inr (omega arith, amount-positive (suc n) (omega arith))

pub same_amounts : (m n : ℕ) → amount m ≡ amount n → m ≡ n
same_amounts m n same =
    elim (amount_cases m) [
      | inl zero_m ↦ elim (amount_cases n) [
        | inl zero_n ↦ zero_m.0 ∙ sym zero_n.0
        | inr more_n ↦ absurd (let empty : [] ≡ 0 ∷ digits_of 256 n = sym zero_m.1 ∙ (same ∙ more_n.1) in cc)
      ]
      | inr more_m ↦ elim (amount_cases n) [
        | inl zero_n ↦ absurd (let empty : 0 ∷ digits_of 256 m ≡ [] = sym more_m.1 ∙ (same ∙ zero_n.1) in cc)
        | inr more_n ↦ same_from_digits_of 256 m n (lit≤ tt) (let both : 0 ∷ digits_of 256 m ≡ 0 ∷ digits_of 256 n = sym more_m.1 ∙ (same ∙ more_n.1) in cc)
      ]
    ]

-- what begins with a sign and spells an amount has a magnitude whose first digit is above 0
after_sign : (sign : ℕ) (rest : List ℕ) (n : ℕ) → sign ∷ rest ≡ amount n → (sign ≡ 0) × (0 < get_or rest 0 0)
after_sign sign rest n same =
    elim (amount_cases n) [
      | inl zero_n ↦ absurd (let empty : sign ∷ rest ≡ [] = same ∙ zero_n.1 in cc)
      | inr more_n ↦
          let both : sign ∷ rest ≡ 0 ∷ digits_of 256 n = same ∙ more_n.1 in
          let rests : rest ≡ digits_of 256 n = cc in
          (cc, subst (λ ds. 0 < get_or ds 0 0) (sym rests) (first_digits_of 256 n (lit≤ tt) more_n.0))
    ]

pub refused_is_no_amount : (bytes : List ℕ) (fault : TokenFault) (n : ℕ) → IsTokenFault bytes fault → n ≤ GREATEST_AMOUNT → bytes ≡ amount n → ⊥
refused_is_no_amount bytes Sign n (sign, rest, not_zero, is) small same = not_zero (after_sign sign rest n (sym is ∙ same)).0
refused_is_no_amount bytes Zeros n (inl is) small same = omega (arith, (after_sign 0 [] n (sym is ∙ same)).1)
refused_is_no_amount bytes Zeros n (inr (rest, is)) small same = omega (arith, (after_sign 0 (0 ∷ rest) n (sym is ∙ same)).1)
refused_is_no_amount bytes TooGreat n (m, great, is) small same = omega (arith, same_amounts m n (sym is ∙ same))

fewer_by : (start left : ℕ) → 0 < left → left < 256 ^ start → (0 < start) × (left / 256 < 256 ^ (start - 1))
fewer_by zero left positive small = absurd (omega arith)
fewer_by (suc start) left positive small =
    let before : start ≡ suc start - 1 = omega arith in
    (omega arith, subst (λ k. left / 256 < 256 ^ k) before (omega arith))

-- one digit more is written, before the others
pub digit_more : (ds : List ℕ) (n start left : ℕ) → start ≤ 12 → length ds ≡ 12 → 0 < left → left < 256 ^ start → digits_of 256 left ++ drop start ds ≡ digits_of 256 n → (0 < start) × (left / 256 < 256 ^ (start - 1)) × (digits_of 256 (left / 256) ++ drop (start - 1) (set ds (start - 1) (left % 256)) ≡ digits_of 256 n)
digit_more ds n start left within size positive small is =
    let by = fewer_by start left positive small in
    let place : (start - 1) + 1 ≡ start = omega (arith, by.0) in
    let back : drop (start - 1) (set ds (start - 1) (left % 256)) ≡ (left % 256) ∷ drop start ds = drop-set ds (start - 1) (left % 256) (omega (arith, by.0)) ∙ ap (λ k. (left % 256) ∷ drop k ds) place in
    (by.0, by.1, ap (λ b. digits_of 256 (left / 256) ++ b) back ∙ (sym (append_assoc (digits_of 256 (left / 256)) (left % 256 ∷ []) (drop start ds)) ∙ (ap (λ b. b ++ drop start ds) (sym (digits_of_step 256 left (lit≤ tt) positive)) ∙ is)))

pub magnitude_start : (n : ℕ) → n ≤ GREATEST_AMOUNT → n < 256 ^ 12
magnitude_start n small = le_lt_trans small (lit< tt)

pub spelled_zero : (n : ℕ) (old bytes : List ℕ) → n ≡ 0 → old ≡ [] → bytes ≡ old → bytes ≡ amount n
unfolding amount
spelled_zero n old bytes zero_n empty same = same ∙ (empty ∙ ap amount (sym zero_n))

pub spelled_more : (n : ℕ) (none signed digits whole bytes : List ℕ) → (n ≡ 0 → ⊥) → none ≡ [] → signed ≡ none ++ (0 ∷ []) → digits ≡ digits_of 256 n → whole ≡ signed ++ digits → bytes ≡ whole → bytes ≡ amount n
spelled_more n none signed digits whole bytes not_0 empty sign is joined same =
    same ∙ (joined ∙ ((λ i. (sign ∙ ap (λ b. b ++ (0 ∷ [])) empty) i ++ is i) ∙ sym (amount-positive n (omega (arith, not_0)))))
