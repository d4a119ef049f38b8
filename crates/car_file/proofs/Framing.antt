-- Bytes behind their length: what stands at the front of bytes, and that it is one thing at most.
use Rattle.std.proofs.Common.{take, drop, ◌≡◌, ℕ, ◌+◌, ◌^◌, ◌<◌, ◌≤◌, List, ◌∷◌, ◌++◌, length, inl, inr, refl, sym, ap, subst, ◌∙◌, append_assoc, arith}
use Rattle.std.proofs.lemmas.List.{length-append, length-take-le, take-append-drop, take-append-le, take_at, drop_at}
use Rattle.fil_base.specs.Varint.{varint}
use Rattle.fil_base.specs.VarintFault.{HaveTopBits}
use Rattle.fil_base.specs.declared.varint.VarintFault.TheVariants.{Cut, TooLong, NotShortest}
use Rattle.fil_base.proofs.Varints.{fault_spells_none, one_varint_fault, same_varints}
use Rattle.car_file.specs.Car.{framed}
use Rattle.car_file.specs.CarFault.{HasBadLength, IsCut, IsFramed}

-- two lists in front, equally long, are the same where all is
pub same_split : (x y r s : List ℕ) → length x ≡ length y → x ++ r ≡ y ++ s → (x ≡ y) × (r ≡ s)
same_split x y r s sizes same =
    (sym (take_at x r (length y) sizes) ∙ (ap (take (length y)) same ∙ take_at y s (length y) refl), sym (drop_at x r (length y) sizes) ∙ (ap (drop (length y)) same ∙ drop_at y s (length y) refl))

-- framed bytes begin with their length
pub framed-append : (content rest : List ℕ) → framed content ++ rest ≡ varint (length content) ++ (content ++ rest)
framed-append content rest = append_assoc (varint (length content)) content rest

-- no framed bytes begin others
pub same_framed : (c d r s : List ℕ) → framed c ++ r ≡ framed d ++ s → (c ≡ d) × (r ≡ s)
same_framed c d r s same =
    let behind = same_varints (length c) (length d) (c ++ r) (d ++ s) (sym (framed-append c r) ∙ (same ∙ framed-append d s)) in
    same_split c d r s behind.0 behind.1

-- ---- what stands at the front

pub framed_at : (bytes content rest : List ℕ) → IsFramed bytes content rest → bytes ≡ varint (length content) ++ (content ++ rest)
framed_at bytes content rest f = f.spelled ∙ framed-append content rest

pub one_framed : (bytes c d r s : List ℕ) → IsFramed bytes c r → IsFramed bytes d s → (c ≡ d) × (r ≡ s)
one_framed bytes c d r s f g = same_framed c d r s (sym f.spelled ∙ g.spelled)

pub framed_not_bad : (bytes content rest : List ℕ) → IsFramed bytes content rest → HasBadLength bytes → ⊥
framed_not_bad bytes content rest f (inl bad) = fault_spells_none bytes TooLong (length content) (content ++ rest) bad f.short (framed_at bytes content rest f)
framed_not_bad bytes content rest f (inr bad) = fault_spells_none bytes NotShortest (length content) (content ++ rest) bad f.short (framed_at bytes content rest f)

pub framed_not_cut : (bytes content rest : List ℕ) → IsFramed bytes content rest → IsCut bytes → ⊥
framed_not_cut bytes content rest f (inl cut) = fault_spells_none bytes Cut (length content) (content ++ rest) cut f.short (framed_at bytes content rest f)
framed_not_cut bytes content rest f (inr (len, more, small, is, short)) =
    let same = same_varints (length content) len (content ++ rest) more (sym (framed_at bytes content rest f) ∙ is) in
    let size : length more ≡ length content + length rest = ap length (sym same.1) ∙ length-append content rest in
    omega (arith, same.0)

pub bad_not_cut : (bytes : List ℕ) → HasBadLength bytes → IsCut bytes → ⊥
bad_not_cut bytes (inl bad) (inl cut) = absurd (let e = one_varint_fault bytes TooLong Cut bad cut in cc)
bad_not_cut bytes (inr bad) (inl cut) = absurd (let e = one_varint_fault bytes NotShortest Cut bad cut in cc)
bad_not_cut bytes (inl bad) (inr (len, rest, small, is, short)) = fault_spells_none bytes TooLong len rest bad small is
bad_not_cut bytes (inr bad) (inr (len, rest, small, is, short)) = fault_spells_none bytes NotShortest len rest bad small is

-- what is found behind a length
pub framed_front : (bytes rest : List ℕ) (len : ℕ) → len < 2 ^ 63 → bytes ≡ varint len ++ rest → len ≤ length rest → IsFramed bytes (take len rest) (drop len rest)
framed_front bytes rest len small is enough =
    let size : length (take len rest) ≡ len = length-take-le len rest enough in
    record {
      short = omega (arith, size);
      spelled = is ∙ (ap (λ (n : ℕ). varint n ++ rest) (sym size) ∙ (ap (λ b. varint (length (take len rest)) ++ b) (sym (take-append-drop len rest)) ∙ sym (framed-append (take len rest) (drop len rest))));
    }

pub cut_behind : (bytes rest : List ℕ) (len : ℕ) → len < 2 ^ 63 → bytes ≡ varint len ++ rest → length rest < len → IsCut bytes
cut_behind bytes rest len small is short = inr (len, rest, small, is, short)

-- ---- further bytes behind

pub framed_stays : (bytes content rest more : List ℕ) → IsFramed bytes content rest → IsFramed (bytes ++ more) content (rest ++ more)
framed_stays bytes content rest more f = record {
  short = f.short;
  spelled = ap (λ b. b ++ more) f.spelled ∙ append_assoc (framed content) rest more;
}

pub bad_stays : (bytes more : List ℕ) → HasBadLength bytes → HasBadLength (bytes ++ more)
bad_stays bytes more (inl (long, tops)) =
    inl (omega (arith, length-append bytes more), subst HaveTopBits (sym (take-append-le 9 bytes more long)) tops)
bad_stays bytes more (inr (front, rest, is, some, near, tops)) =
    inr (front, rest ++ more, ap (λ b. b ++ more) is ∙ append_assoc front (0 ∷ rest) more, some, near, tops)
