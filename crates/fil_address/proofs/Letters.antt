-- What stands in base 32.
use Rattle.std.proofs.Common.{◌≡◌, ℕ, ◌<◌, List, inl, inr, subst, arith}
use Rattle.std.specs.Prelude.{All}
use Rattle.fil_base.specs.Base32.{IsBase32Fault, base32}
use Rattle.fil_base.specs.declared.base32.Base32Fault.TheVariants.{Length as BadLength, Letter as BadLetter, Spare}
use Rattle.fil_base.proofs.Base32Text.{refused_is_no_text}
use Rattle.fil_address.specs.AddressFault.{IsLettersFault}
use Rattle.fil_address.specs.declared.fault.AddressFault.{AddressFault}
use Rattle.fil_address.specs.declared.fault.AddressFault.TheVariants.{Empty, Protocol, Number, Length, Letter, Checksum}

pub spelled_has_no_fault : (bytes rest : List ℕ) (fault : AddressFault) → All (λ byte. byte < 256) bytes → rest ≡ base32 bytes → IsLettersFault rest fault → ⊥
spelled_has_no_fault bytes rest Empty below is bad = bad
spelled_has_no_fault bytes rest Protocol below is bad = bad
spelled_has_no_fault bytes rest Number below is bad = bad
spelled_has_no_fault bytes rest Length below is bad = refused_is_no_text bytes BadLength below (subst (λ r. IsBase32Fault r BadLength) is bad)
spelled_has_no_fault bytes rest Letter below is (inl (i, bad)) = refused_is_no_text bytes (BadLetter i) below (subst (λ r. IsBase32Fault r (BadLetter i)) is bad)
spelled_has_no_fault bytes rest Letter below is (inr bad) = refused_is_no_text bytes Spare below (subst (λ r. IsBase32Fault r Spare) is bad)
spelled_has_no_fault bytes rest Checksum below is bad = bad

pub one_letters_fault : (rest : List ℕ) (f g : AddressFault) → IsLettersFault rest f → IsLettersFault rest g → f ≡ g
one_letters_fault rest f g x y = grind arith
