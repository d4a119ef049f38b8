-- Texts in base 32.
use Rattle.std.proofs.Common.{suc, zero, take, drop, set, map, ◌≡◌, ℕ, ◌+◌, ◌-◌, ◌*◌, ◌/◌, ◌%◌, ◌^◌, ◌<◌, ◌≤◌, List, [], ◌∷◌, ◌++◌, length, get_or, inl, inr, refl, sym, ap, subst, ◌∙◌, append_assoc, arith, add-zero, zero-add}
use Rattle.std.specs.List.{All}
use Rattle.std.specs.Int.Digits.{number_from_digits, number_from_digits_after, AllBelowBase}
use Rattle.std.proofs.lemmas.Bool.Decides.{nat_tests}
use Rattle.std.proofs.lemmas.Int.Digits.{number_lt, number_push}
use Rattle.std.proofs.lemmas.Bool.{cases_lt}
use Rattle.std.proofs.lemmas.List.{length_push, append-nil, drop-set-lt, drop-drop, length-drop, get_or-drop, get_or_default, get_or-take, length-map, length-take, map_more, take_more_set}
use Rattle.std.proofs.lemmas.List.Elements.{All-nil, All-push, All-map, All-weaker}
use Rattle.std.proofs.lemmas.Nat.{mod-pow-add, mod_low, pow_pos, shl-shr, shl_below, shl_whole, shr-shr, shr_below, shr_split, pow-add}
use Rattle.fil_base.specs.Base32.{IsBadLength, IsBase32Fault, IsLetter, base32, digits_in, letter, letters_for, spare_bits, value_of}
use Rattle.fil_base.specs.Regroup.{Regroups}
use Rattle.fil_base.specs.declared.base32.Base32Fault.{Base32Fault}
use Rattle.fil_base.specs.declared.base32.Base32Fault.TheVariants.{Length, Letter, Spare}
use Rattle.fil_base.proofs.Regroups.{digits_in-more}

-- the whole bytes fill the last letter
pub filled_none : (n len bits : ℕ) (groups : List ℕ) → Regroups n (8 * len) 5 groups bits 0 → groups ≡ digits_in 32 (letters_for len) (n * 2 ^ spare_bits len)
filled_none n len bits groups is =
    let places : length groups ≡ letters_for len = omega (arith, is.all) in
    let spare : 0 ≡ spare_bits len = omega (arith, is.all) in
    let number : n / 2 ^ 0 ≡ n * 2 ^ 0 = omega arith in
    is.cut ∙ ((λ i. digits_in 32 (places i) (number i)) ∙ ap (λ k. digits_in 32 (letters_for len) (n * 2 ^ k)) spare)

filled_at : (n count rest : ℕ) (groups : List ℕ) (bits : ℕ) → rest + count ≡ 5 → groups ≡ digits_in 32 (length groups) (n / 2 ^ count) → bits ≡ n % 2 ^ count → groups ++ (bits * 2 ^ rest ∷ []) ≡ digits_in 32 (length groups + 1) (n * 2 ^ rest)
filled_at n count rest groups bits sum cut left =
    let m = n * 2 ^ rest in
    let back : m / 2 ^ rest ≡ n = shl-shr n rest in
    let turned : count + rest ≡ 5 = omega arith in
    let nothing : m % 2 ^ rest ≡ 0 = ap (λ x. x % 2 ^ rest) (sym (add-zero m)) ∙ mod_low n rest 0 (pow_pos rest) in
    let high : n / 2 ^ count ≡ m / 32 = ap (λ x. x / 2 ^ count) (sym back) ∙ (shr-shr m rest count ∙ ap (λ k. m / 2 ^ k) sum) in
    let low : bits * 2 ^ rest ≡ m % 32 = ap (λ b. b * 2 ^ rest) (left ∙ ap (λ x. x % 2 ^ count) (sym back)) ∙ (sym (add-zero (m / 2 ^ rest % 2 ^ count * 2 ^ rest)) ∙ (ap (λ x. m / 2 ^ rest % 2 ^ count * 2 ^ rest + x) (sym nothing) ∙ (sym (mod-pow-add m count rest) ∙ ap (λ k. m % 2 ^ k) turned))) in
    (λ i. cut i ++ (low i ∷ [])) ∙ (ap (λ x. digits_in 32 (length groups) x ++ (m % 32 ∷ [])) high ∙ sym (digits_in-more 32 (length groups) m))

-- some bits of the last letter are zeros that fill it
pub filled_more : (n len bits count : ℕ) (groups : List ℕ) → count < 5 → (count ≡ 0 → ⊥) → Regroups n (8 * len) 5 groups bits count → groups ++ (bits * 2 ^ (5 - count) ∷ []) ≡ digits_in 32 (letters_for len) (n * 2 ^ spare_bits len)
filled_more n len bits count groups few some is =
    let places : length groups + 1 ≡ letters_for len = omega (arith, is.all, some) in
    let spare : 5 - count ≡ spare_bits len = omega (arith, is.all, some) in
    filled_at n count (5 - count) groups bits (omega arith) is.cut is.left ∙ (λ i. digits_in 32 (places i) (n * 2 ^ spare i))

pub last_fits : (bits count : ℕ) → count < 5 → bits < 2 ^ count → bits * 2 ^ (5 - count) < 32
last_fits bits count few fits =
    let sum : count + (5 - count) ≡ 5 = omega arith in
    subst (λ k. bits * 2 ^ (5 - count) < 2 ^ k) sum (shl_below bits count (5 - count) fits)

pub last_shifted : (bits count : ℕ) → count < 5 → bits < 2 ^ count → bits * 2 ^ (5 - count) % 4294967296 ≡ bits * 2 ^ (5 - count)
last_shifted bits count few fits = shl_whole bits count (5 - count) 32 fits (omega arith)

pub digits_below : (places n : ℕ) → All (λ d. d < 32) (digits_in 32 places n)
unfolding digits_in
digits_below zero n = All-nil (λ d. d < 32)
digits_below (suc places) n = All-push (λ d. d < 32) (digits_in 32 places (n / 32)) (n % 32) (digits_below places (n / 32)) (omega arith)

-- the letters in their place
pub spelled_item : (now old : List ℕ) (i : ℕ) → drop i now ≡ drop i old → get_or now i 0 ≡ get_or old i 0
spelled_item now old i back =
    let at : i + 0 ≡ i = omega arith in
    ap (λ k. get_or now k 0) (sym at) ∙ (sym (get_or-drop i now 0 0) ∙ (ap (λ b. get_or b 0 0) back ∙ (get_or-drop i old 0 0 ∙ ap (λ k. get_or old k 0) at)))

pub same_size : (now old : List ℕ) (i : ℕ) → i < length now → drop i now ≡ drop i old → i < length old
same_size now old i within back = omega (arith, length-drop i now, length-drop i old, ap length back)

pub spelled_front : (now old : List ℕ) (i x : ℕ) → i < length now → drop i now ≡ drop i old → take i now ≡ map letter (take i old) → x ≡ letter (get_or now i 0) → take (i + 1) (set now i x) ≡ map letter (take (i + 1) old)
spelled_front now old i x within back front is =
    take_more_set now i x within ∙ ((λ j. front j ++ ((is ∙ ap letter (spelled_item now old i back)) j ∷ [])) ∙ sym (map_more letter old i 0 (same_size now old i within back)))

pub spelled_back : (now old : List ℕ) (i x : ℕ) → drop i now ≡ drop i old → drop (i + 1) (set now i x) ≡ drop (i + 1) old
spelled_back now old i x back =
    drop-set-lt (i + 1) now i x (omega arith) ∙ (sym (drop-drop 1 i now) ∙ (ap (λ b. drop 1 b) back ∙ drop-drop 1 i old))

-- the letters that are read
pub letter_below : (c : ℕ) → IsLetter c → value_of c < 32
letter_below c (inl low) = grind (arith, nat_tests)
letter_below c (inr high) = grind (arith, nat_tests)

pub letter-value_of : (c : ℕ) → IsLetter c → letter (value_of c) ≡ c
letter-value_of c (inl low) = grind (arith, nat_tests)
letter-value_of c (inr high) = grind (arith, nat_tests)

pub values_below : (text : List ℕ) → All IsLetter text → All (λ v. v < 32) (map value_of text)
values_below text letters = All-map (λ v. v < 32) value_of text (All-weaker IsLetter (λ c. value_of c < 32) letter_below text letters)

map_values : (text : List ℕ) → All IsLetter text → map letter (map value_of text) ≡ text
map_values [] letters = refl
map_values (c ∷ cs) letters =
    (λ i. letter-value_of c (letters 0 0 (omega arith)) i ∷ map_values cs (λ k d within. letters (suc k) d (omega arith)) i)

digits_after : (ds : List ℕ) (places n : ℕ) → All (λ d. d < 32) ds → digits_in 32 (places + length ds) (number_from_digits_after 32 n ds) ≡ digits_in 32 places n ++ ds
digits_after [] places n below = ap (λ p. digits_in 32 p n) (add-zero places) ∙ sym (append-nil (digits_in 32 places n))
digits_after (d ∷ ds) places n below =
    let first : d < 32 = below 0 0 (omega arith) in
    let high : (n * 32 + d) / 32 ≡ n = omega arith in
    let low : (n * 32 + d) % 32 ≡ d = omega arith in
    let order : places + suc (length ds) ≡ (places + 1) + length ds = omega arith in
    ap (λ p. digits_in 32 p (number_from_digits_after 32 (n * 32 + d) ds)) order ∙ (digits_after ds (places + 1) (n * 32 + d) (λ k e within. below (suc k) e (omega arith)) ∙ (ap (λ b. b ++ ds) (digits_in-more 32 places (n * 32 + d) ∙ (λ i. digits_in 32 places (high i) ++ (low i ∷ []))) ∙ append_assoc (digits_in 32 places n) (d ∷ []) ds))

digits_in-number : (ds : List ℕ) → All (λ d. d < 32) ds → digits_in 32 (length ds) (number_from_digits 32 ds) ≡ ds
unfolding digits_in
digits_in-number ds below = ap (λ p. digits_in 32 p (number_from_digits 32 ds)) (sym (zero-add (length ds))) ∙ digits_after ds 0 0 below

number-digits_in : (places n : ℕ) → n < 256 ^ places → number_from_digits 256 (digits_in 256 places n) ≡ n
unfolding digits_in
number-digits_in zero n small = omega arith
number-digits_in (suc places) n small =
    number_push 256 (digits_in 256 places (n / 256)) (n % 256) ∙ omega (arith, number-digits_in places (n / 256) (omega arith))

below_base : (ds : List ℕ) → All (λ d. d < 32) ds → AllBelowBase 32 ds
below_base [] below = tt
below_base (d ∷ ds) below = (below 0 0 (omega arith), below_base ds (λ k e within. below (suc k) e (omega arith)))

power_is : (k : ℕ) → 256 ^ k ≡ 2 ^ (8 * k)
power_is zero = refl
power_is (suc k) = let sum : 8 * suc k ≡ 8 * k + 8 = omega arith in omega (arith, power_is k, pow-add 2 (8 * k) 8, ap (λ e. 2 ^ e) sum)

power_32 : (k : ℕ) → 32 ^ k ≡ 2 ^ (5 * k)
power_32 zero = refl
power_32 (suc k) = let sum : 5 * suc k ≡ 5 * k + 5 = omega arith in omega (arith, power_32 k, pow-add 2 (5 * k) 5, ap (λ e. 2 ^ e) sum)

few_left : (len places count : ℕ) → (IsBadLength len → ⊥) → 8 * places + count ≡ 5 * len → count < 8 → count < 5
few_left len places count good sum few = omega (arith, λ (h : len % 8 ≡ 1). good (inl h), λ (h : len % 8 ≡ 3). good (inr (inl h)), λ (h : len % 8 ≡ 6). good (inr (inr h)))

-- the groups of eight bits spell the text, where no bit is left that is one
read_at : (v count n places : ℕ) (bytes : List ℕ) → v < 32 ^ n → 8 * places + count ≡ 5 * n → places ≡ length bytes → bytes ≡ digits_in 256 places (v / 2 ^ count) → v % 2 ^ count ≡ 0 → number_from_digits 256 bytes * 2 ^ count ≡ v
read_at v count n places bytes small sum size cut nothing =
    let power : 32 ^ n ≡ 2 ^ (8 * places + count) = power_32 n ∙ ap (λ k. 2 ^ k) (sym sum) in
    let high : v / 2 ^ count < 256 ^ places = subst (λ p. v / 2 ^ count < p) (sym (power_is places)) (shr_below v (8 * places) count (subst (λ p. v < p) power small)) in
    let number : number_from_digits 256 bytes ≡ v / 2 ^ count = ap (λ b. number_from_digits 256 b) cut ∙ number-digits_in places (v / 2 ^ count) high in
    ap (λ x. x * 2 ^ count) number ∙ omega (arith, shr_split v count, nothing)

pub read_found : (text values bytes : List ℕ) (bits count : ℕ) → (IsBadLength (length text) → ⊥) → All IsLetter text → values ≡ map value_of text → Regroups (number_from_digits 32 values) (5 * length values) 8 bytes bits count → count < 8 → bits ≡ 0 → base32 bytes ≡ text
unfolding base32
read_found text values bytes bits count good letters are is few nothing =
    let size : length values ≡ length text = ap length are ∙ length-map text value_of in
    let sum : 8 * length bytes + count ≡ 5 * length values = is.all in
    let left : count < 5 = few_left (length text) (length bytes) count good (omega (arith, sum, size)) few in
    let places : letters_for (length bytes) ≡ length values = omega arith in
    let spare : spare_bits (length bytes) ≡ count = omega (arith, places) in
    let below : All (λ v. v < 32) values = subst (λ vs. All (λ v. v < 32) vs) (sym are) (values_below text letters) in
    let small : number_from_digits 32 values < 32 ^ length values = number_lt 32 values (below_base values below) in
    let number : number_from_digits 256 bytes * 2 ^ count ≡ number_from_digits 32 values = read_at (number_from_digits 32 values) count (length values) (length bytes) bytes small sum refl is.cut (sym is.left ∙ nothing) in
    ap (λ k. map letter (digits_in 32 (letters_for (length bytes)) (number_from_digits 256 bytes * 2 ^ k))) spare ∙ ((λ i. map letter (digits_in 32 (places i) (number i))) ∙ (ap (λ vs. map letter vs) (digits_in-number values below ∙ are) ∙ map_values text letters))

pub read_spare : (text values bytes : List ℕ) (bits count : ℕ) → (IsBadLength (length text) → ⊥) → All IsLetter text → values ≡ map value_of text → Regroups (number_from_digits 32 values) (5 * length values) 8 bytes bits count → count < 8 → (bits ≡ 0 → ⊥) → IsBase32Fault text Spare
read_spare text values bytes bits count good letters are is few some =
    let size : length values ≡ length text = ap length are ∙ length-map text value_of in
    let modulo : 5 * length text % 8 ≡ count = omega (arith, is.all, size) in
    (good, letters, λ none. some (is.left ∙ ((λ i. number_from_digits 32 (are i) % 2 ^ sym modulo i) ∙ none)))

pub read_letter : (text : List ℕ) (i : ℕ) → (IsBadLength (length text) → ⊥) → i < length text → ((k : ℕ) → k < i → IsLetter (get_or text k 0)) → (IsLetter (get_or text i 0) → ⊥) → IsBase32Fault text (Letter i)
read_letter text i good within letters not = (
  good,
  within,
  λ k d below.
      let near : k < i = omega (arith, length-take i text) in
      subst IsLetter (get_or_default text k 0 d (omega arith) ∙ sym (get_or-take i text k d near)) (letters k near),
  not,
)

pub read_all : (text : List ℕ) (i : ℕ) → length text ≤ i → ((k : ℕ) → k < i → IsLetter (get_or text k 0)) → All IsLetter text
read_all text i all letters = λ k d within. subst IsLetter (get_or_default text k 0 d within) (letters k (omega arith))

pub text_of_groups : (bytes groups letters text : List ℕ) → groups ≡ digits_in 32 (letters_for (length bytes)) (number_from_digits 256 bytes * 2 ^ spare_bits (length bytes)) → letters ≡ map letter groups → text ≡ letters → text ≡ base32 bytes
unfolding base32
text_of_groups bytes groups letters text are spelled same = same ∙ (spelled ∙ ap (λ g. map letter g) are)

-- bytes have one text, and no text that is refused
letter_is : (v : ℕ) → v < 32 → IsLetter (letter v)
letter_is v small = elim (cases_lt v 26) [ inl low ↦ inl (grind (arith, nat_tests)) | inr high ↦ inr (grind (arith, nat_tests)) ]

value_of-letter : (v : ℕ) → v < 32 → value_of (letter v) ≡ v
value_of-letter v small = elim (cases_lt v 26) [ inl low ↦ grind (arith, nat_tests) | inr high ↦ grind (arith, nat_tests) ]

values_back : (ds : List ℕ) → All (λ d. d < 32) ds → map value_of (map letter ds) ≡ ds
values_back [] below = refl
values_back (d ∷ ds) below =
    (λ i. value_of-letter d (below 0 0 (omega arith)) i ∷ values_back ds (λ k e within. below (suc k) e (omega arith)) i)

length-digits_in : (places n : ℕ) → length (digits_in 32 places n) ≡ places
unfolding digits_in
length-digits_in zero n = refl
length-digits_in (suc places) n = length_push (digits_in 32 places (n / 32)) (n % 32) ∙ omega (arith, length-digits_in places (n / 32))

number-digits_in_32 : (places n : ℕ) → n < 32 ^ places → number_from_digits 32 (digits_in 32 places n) ≡ n
unfolding digits_in
number-digits_in_32 zero n small = omega arith
number-digits_in_32 (suc places) n small =
    number_push 32 (digits_in 32 places (n / 32)) (n % 32) ∙ omega (arith, number-digits_in_32 places (n / 32) (omega arith))

bytes_after : (ds : List ℕ) (places n : ℕ) → All (λ d. d < 256) ds → digits_in 256 (places + length ds) (number_from_digits_after 256 n ds) ≡ digits_in 256 places n ++ ds
bytes_after [] places n below = ap (λ p. digits_in 256 p n) (add-zero places) ∙ sym (append-nil (digits_in 256 places n))
bytes_after (d ∷ ds) places n below =
    let first : d < 256 = below 0 0 (omega arith) in
    let high : (n * 256 + d) / 256 ≡ n = omega arith in
    let low : (n * 256 + d) % 256 ≡ d = omega arith in
    let order : places + suc (length ds) ≡ (places + 1) + length ds = omega arith in
    ap (λ p. digits_in 256 p (number_from_digits_after 256 (n * 256 + d) ds)) order ∙ (bytes_after ds (places + 1) (n * 256 + d) (λ k e within. below (suc k) e (omega arith)) ∙ (ap (λ b. b ++ ds) (digits_in-more 256 places (n * 256 + d) ∙ (λ i. digits_in 256 places (high i) ++ (low i ∷ []))) ∙ append_assoc (digits_in 256 places n) (d ∷ []) ds))

bytes_back : (ds : List ℕ) → All (λ d. d < 256) ds → digits_in 256 (length ds) (number_from_digits 256 ds) ≡ ds
unfolding digits_in
bytes_back ds below = ap (λ p. digits_in 256 p (number_from_digits 256 ds)) (sym (zero-add (length ds))) ∙ bytes_after ds 0 0 below

bytes_below : (ds : List ℕ) → All (λ d. d < 256) ds → AllBelowBase 256 ds
bytes_below [] below = tt
bytes_below (d ∷ ds) below = (below 0 0 (omega arith), bytes_below ds (λ k e within. below (suc k) e (omega arith)))

-- the number that the letters spell
abbrev shifted_number : List ℕ → ℕ
shifted_number bytes = number_from_digits 256 bytes * 2 ^ spare_bits (length bytes)

abbrev groups_of : List ℕ → List ℕ
groups_of bytes = digits_in 32 (letters_for (length bytes)) (shifted_number bytes)

shifted_small : (bytes : List ℕ) → All (λ d. d < 256) bytes → shifted_number bytes < 32 ^ letters_for (length bytes)
shifted_small bytes below =
    let sum : 8 * length bytes + spare_bits (length bytes) ≡ 5 * letters_for (length bytes) = omega arith in
    let small : number_from_digits 256 bytes < 2 ^ (8 * length bytes) = subst (λ p. number_from_digits 256 bytes < p) (power_is (length bytes)) (number_lt 256 bytes (bytes_below bytes below)) in
    subst (λ p. shifted_number bytes < p) (sym (power_32 (letters_for (length bytes)) ∙ ap (λ k. 2 ^ k) (sym sum))) (shl_below (number_from_digits 256 bytes) (8 * length bytes) (spare_bits (length bytes)) small)

values_are : (bytes : List ℕ) → map value_of (base32 bytes) ≡ groups_of bytes
unfolding base32
values_are bytes = values_back (groups_of bytes) (digits_below (letters_for (length bytes)) (shifted_number bytes))

number_is : (bytes : List ℕ) → All (λ d. d < 256) bytes → number_from_digits 32 (map value_of (base32 bytes)) ≡ shifted_number bytes
number_is bytes below =
    ap (λ ds. number_from_digits 32 ds) (values_are bytes) ∙ number-digits_in_32 (letters_for (length bytes)) (shifted_number bytes) (shifted_small bytes below)

length-base32 : (bytes : List ℕ) → length (base32 bytes) ≡ letters_for (length bytes)
length-base32 bytes =
    sym (length-map (base32 bytes) value_of) ∙ (ap length (values_are bytes) ∙ length-digits_in (letters_for (length bytes)) (shifted_number bytes))

same_length : (x y : ℕ) → letters_for x ≡ letters_for y → x ≡ y
same_length x y same = omega arith

pub same_texts : (a b : List ℕ) → All (λ byte. byte < 256) a → All (λ byte. byte < 256) b → base32 a ≡ base32 b → a ≡ b
same_texts a b below_a below_b same =
    let sizes : length a ≡ length b = same_length (length a) (length b) (sym (length-base32 a) ∙ (ap length same ∙ length-base32 b)) in
    let numbers : shifted_number a ≡ shifted_number b = sym (number_is a below_a) ∙ (ap (λ t. number_from_digits 32 (map value_of t)) same ∙ number_is b below_b) in
    let turned : number_from_digits 256 a * 2 ^ spare_bits (length b) ≡ number_from_digits 256 b * 2 ^ spare_bits (length b) = ap (λ k. number_from_digits 256 a * 2 ^ spare_bits k) (sym sizes) ∙ numbers in
    let plain : number_from_digits 256 a ≡ number_from_digits 256 b = sym (shl-shr (number_from_digits 256 a) (spare_bits (length b))) ∙ (ap (λ m. m / 2 ^ spare_bits (length b)) turned ∙ shl-shr (number_from_digits 256 b) (spare_bits (length b))) in
    sym (bytes_back a below_a) ∙ ((λ i. digits_in 256 (sizes i) (plain i)) ∙ bytes_back b below_b)

no_bad_length : (len : ℕ) → IsBadLength (letters_for len) → ⊥
no_bad_length len (inl one) = omega arith
no_bad_length len (inr (inl three)) = omega arith
no_bad_length len (inr (inr six)) = omega arith

letters_are : (bytes : List ℕ) → All IsLetter (base32 bytes)
unfolding base32
letters_are bytes =
    All-map IsLetter letter (groups_of bytes) (All-weaker (λ d. d < 32) (λ d. IsLetter (letter d)) letter_is (groups_of bytes) (digits_below (letters_for (length bytes)) (shifted_number bytes)))

no_spare : (bytes : List ℕ) → All (λ byte. byte < 256) bytes → number_from_digits 32 (map value_of (base32 bytes)) % 2 ^ (5 * length (base32 bytes) % 8) ≡ 0
no_spare bytes below =
    let s = spare_bits (length bytes) in
    let rest : 5 * length (base32 bytes) % 8 ≡ s = omega (arith, length-base32 bytes) in
    (λ i. number_is bytes below i % 2 ^ rest i) ∙ (ap (λ x. x % 2 ^ s) (sym (add-zero (shifted_number bytes))) ∙ mod_low (number_from_digits 256 bytes) s 0 (pow_pos s))

pub refused_is_no_text : (bytes : List ℕ) (fault : Base32Fault) → All (λ byte. byte < 256) bytes → IsBase32Fault (base32 bytes) fault → ⊥
refused_is_no_text bytes Length below bad = no_bad_length (length bytes) (subst IsBadLength (length-base32 bytes) bad)
refused_is_no_text bytes (Letter i) below (good, within, letters, not) = not (letters_are bytes i 0 within)
refused_is_no_text bytes Spare below (good, letters, some) = some (no_spare bytes below)
