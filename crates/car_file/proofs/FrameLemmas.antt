-- What more bytes change at the front of bytes.
use Rattle.std.proofs.Common.{take, drop, ◌≡◌, ℕ, ◌^◌, ◌<◌, ◌≤◌, List, [], ◌∷◌, ◌++◌, length, inl, inr, refl, sym, ap, ◌∙◌, append_assoc, arith, length-append}
use Rattle.std.proofs.lemmas.List.{length-take, take-append-drop, take-append-le, take_at}
use Rattle.fil_base.specs.Varint.{varint}
use Rattle.fil_base.specs.declared.varint.VarintFault.TheVariants.{Cut}
use Rattle.fil_base.proofs.Varints.{fault_spells_none, same_varints}
use Rattle.car_file.specs.Car.{framed}
use Rattle.car_file.specs.CarFault.{IsCut}
use Rattle.car_file.specs.Frame.{HasNothingBehind}
use Rattle.car_file.proofs.Framing.{framed_not_cut}

-- where the length is known, fewer bytes follow it
pub cut_short : (bytes rest : List ℕ) (len : ℕ) → len < 2 ^ 63 → bytes ≡ varint len ++ rest → IsCut bytes → length rest < len
cut_short bytes rest len small is (inl cut) = absurd (fault_spells_none bytes Cut len rest cut small is)
cut_short bytes rest len small is (inr (m, more, small_m, is_m, short)) =
    let same = same_varints len m rest more (sym is ∙ is_m) in
    omega (arith, same.0, ap length same.1)

-- a list that is not empty has a last element
last_of : (xs : List ℕ) → 0 < length xs → (front : List ℕ) × (last : ℕ) × (xs ≡ front ++ (last ∷ []))
last_of [] some = absurd (omega arith)
last_of (x ∷ []) some = ([], x, refl)
last_of (x ∷ y ∷ xs) some =
    let rest = last_of (y ∷ xs) (omega arith) in
    (x ∷ rest.0, rest.1, ap (λ (l : List ℕ). x ∷ l) rest.2)

-- two lists with the same end
same_front : (xs ys : List ℕ) (x y : ℕ) → xs ++ (x ∷ []) ≡ ys ++ (y ∷ []) → xs ≡ ys
same_front xs ys x y same =
    let sizes : length xs ≡ length ys = omega (arith, ap length same, length-append xs (x ∷ []), length-append ys (y ∷ [])) in
    sym (take_at xs (x ∷ []) (length ys) sizes) ∙ (ap (take (length ys)) same ∙ take_at ys (y ∷ []) (length ys) refl)

-- with as many bytes as are missing, nothing follows
pub nothing_behind : (bytes more : List ℕ) (missing : ℕ) → ((m : List ℕ) → length m < missing → IsCut (bytes ++ m)) → 0 < length more → length more ≤ missing → HasNothingBehind (bytes ++ more)
nothing_behind bytes more missing still some enough content [] f = refl
nothing_behind bytes more missing still some enough content (r ∷ rs) f =
    let last = last_of more some in
    let end = last_of (r ∷ rs) (omega arith) in
    let all : (bytes ++ last.0) ++ (last.1 ∷ []) ≡ (framed content ++ end.0) ++ (end.1 ∷ []) =
    append_assoc bytes last.0 (last.1 ∷ []) ∙ (ap (λ (m : List ℕ). bytes ++ m) (sym last.2) ∙ (f.spelled ∙ (ap (λ (m : List ℕ). framed content ++ m) end.2 ∙ sym (append_assoc (framed content) end.0 (end.1 ∷ []))))) in
    let fewer : length last.0 < missing = omega (arith, ap length last.2, length-append last.0 (last.1 ∷ [])) in
    absurd (framed_not_cut (bytes ++ last.0) content end.0 (record { short = f.short; spelled = same_front (bytes ++ last.0) (framed content ++ end.0) last.1 end.1 all }) (still last.0 fewer))

-- a list that begins with another still does with more behind it
pub kept_more : (old now more : List ℕ) → take (length old) now ≡ old → take (length old) (now ++ more) ≡ old
kept_more old now more kept =
    let within : length old ≤ length now = omega (arith, ap length kept, length-take (length old) now) in
    take-append-le (length old) now more within ∙ kept

-- a piece of the rest moves to the end of what is gathered
pub all_moved : (old now rest front behind piece : List ℕ) (count : ℕ) → front ≡ take count rest → behind ≡ drop count rest → now ++ rest ≡ old ++ piece → (now ++ front) ++ behind ≡ old ++ piece
all_moved old now rest front behind piece count is_front is_behind all =
    append_assoc now front behind ∙ (ap (λ (b : List ℕ). now ++ b) ((λ i. is_front i ++ is_behind i) ∙ take-append-drop count rest) ∙ all)

pub none_left : (rest : List ℕ) → length rest ≡ 0 → rest ≡ []
none_left [] none = refl
none_left (x ∷ xs) none = absurd (omega arith)
