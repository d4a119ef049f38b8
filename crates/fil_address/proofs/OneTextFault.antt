-- A text has one fault at most.
use Rattle.std.proofs.Common.{◌≡◌, ◌≢◌, ◌⊎◌, ℕ, ◌+◌, ◌<◌, ◌≤◌, List, ◌∷◌, ◌++◌, length, inl, inr, refl, sym, ap, subst, ◌∙◌, length-append, arith}
use Rattle.std.specs.Prelude.{All}
use Rattle.std.proofs.lemmas.List.Elements.{All-append}
use Rattle.fil_base.specs.Base32.{base32}
use Rattle.fil_base.proofs.Base32Text.{same_texts}
use Rattle.fil_address.specs.AddressText.{IsNetwork}
use Rattle.fil_address.specs.AddressFault.{HasLength, HasOtherLetter, IsLettersFault, IsTextFault, TextOf}
use Rattle.fil_address.proofs.Letters.{one_letters_fault, spelled_has_no_fault}
use Rattle.fil_address.proofs.Protocols.{one_length}
use Rattle.fil_address.specs.declared.fault.AddressFault.{AddressFault}
use Rattle.fil_address.specs.declared.fault.AddressFault.TheVariants.{Empty, Protocol, Number, Length, Letter, Checksum}

-- the characters spell so many bytes
record Spells (rest : List ℕ) (size : ℕ) : Type 0 where
  bytes : List ℕ
  is : rest ≡ base32 bytes
  below : All (λ byte. byte < 256) bytes
  size_is : length bytes ≡ size

one_size : (rest : List ℕ) (m n : ℕ) → Spells rest m → Spells rest n → m ≡ n
one_size rest m n x y = sym x.size_is ∙ (ap length (same_texts x.bytes y.bytes x.below y.below (sym x.is ∙ y.is)) ∙ y.size_is)

-- what is wrong behind the digit of a protocol whose payload has so many bytes
IsSealFault : ℕ → List ℕ → AddressFault → Type 0
IsSealFault len rest fault =
    IsLettersFault rest fault
    ⊎ ((size : ℕ) × Spells rest size × (((size ≢ len + 4) × (fault ≡ Length)) ⊎ ((size ≡ len + 4) × (fault ≡ Checksum))))

one_behind : (len : ℕ) (rest : List ℕ) (f g : AddressFault) → IsSealFault len rest f → IsSealFault len rest g → f ≡ g
unfolding IsSealFault
one_behind len rest f g (inl x) (inl y) = one_letters_fault rest f g x y
one_behind len rest f g (inl x) (inr (n, spells, why)) = absurd (spelled_has_no_fault spells.bytes rest f spells.below spells.is x)
one_behind len rest f g (inr (m, spells, why)) (inl y) = absurd (spelled_has_no_fault spells.bytes rest g spells.below spells.is y)
one_behind len rest f g (inr (m, x, why)) (inr (n, y, reason)) =
    let same : m ≡ n = one_size rest m n x y in
    grind arith

one_seal_fault : (m n : ℕ) (rest more : List ℕ) (f g : AddressFault) → IsSealFault m rest f → IsSealFault n more g → m ≡ n → rest ≡ more → f ≡ g
one_seal_fault m n rest more f g x y same same_rest =
    one_behind n more f g (subst (λ r. IsSealFault n r f) same_rest (subst (λ k. IsSealFault k rest f) same x)) y

-- what is wrong from the left
abbrev IsJudged : List ℕ → AddressFault → Type 0
IsJudged text fault =
    ((length text < 3) × (fault ≡ Empty))
    ⊎ ((HasOtherLetter text × (fault ≡ Letter))
    ⊎ (((network : ℕ) × (digit : ℕ) × (rest : List ℕ) × IsNetwork network × (text ≡ network ∷ (digit ∷ rest)) × (3 ≤ length text) × ((digit < 48) ⊎ (51 < digit)) × (fault ≡ Protocol))
    ⊎ (((rest : List ℕ) × TextOf text 0 rest × (fault ≡ Number))
    ⊎ ((p : ℕ) × (len : ℕ) × (rest : List ℕ) × TextOf text p rest × HasLength p len × IsSealFault len rest fault))))

one_judged : (text : List ℕ) (f g : AddressFault) → IsJudged text f → IsJudged text g → f ≡ g
one_judged text f g x y = grind (arith, one_length, one_seal_fault)

judged : (text : List ℕ) (fault : AddressFault) → IsTextFault text fault → IsJudged text fault
unfolding IsSealFault
judged text Empty few = inl (few, refl)
judged text Letter (inl other) = inr (inl (other, refl))
judged text Letter (inr (p, len, rest, is, has, bad)) = inr (inr (inr (inr (p, len, rest, is, has, inl bad))))
judged text Protocol (network, digit, rest, known, is, enough, out) = inr (inr (inl (network, digit, rest, known, is, enough, out, refl)))
judged text Number (rest, is, none) = inr (inr (inr (inl (rest, is, refl))))
judged text Length (p, len, rest, is, has, inl bad) = inr (inr (inr (inr (p, len, rest, is, has, inl bad))))
judged text Length (p, len, rest, is, has, inr (bytes, spelled, below, other)) =
    inr (inr (inr (inr (p, len, rest, is, has, inr (length bytes, record { bytes = bytes; is = spelled; below = below; size_is = refl }, inl (other, refl))))))
judged text Checksum (p, len, front, sum, is, has, are_front, are_sum, other) =
    let sealed : Spells (base32 (front ++ sum)) (len + 4) = record {
      bytes = front ++ sum;
      is = refl;
      below = All-append (λ byte. byte < 256) front sum are_front.1 are_sum.1;
      size_is = omega (arith, length-append front sum, are_front.0, are_sum.0);
    } in
    inr (inr (inr (inr (p, len, base32 (front ++ sum), is, has, inr (len + 4, sealed, inr (refl, refl))))))

pub one_text_fault : (text : List ℕ) (f g : AddressFault) → IsTextFault text f → IsTextFault text g → f ≡ g
one_text_fault text f g x y = one_judged text f g (judged text f x) (judged text g y)
