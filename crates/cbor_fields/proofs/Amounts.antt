-- What bytes are read as an amount.
use Rattle.std.proofs.Common.{◌≡◌, ℕ, zero, suc, ◌≤◌, Bool, true, ◌&&◌, List, Ok, Err, refl, ap, ◌∙◌, inl, inr, leb, lit≤, arith}
use Rattle.std.specs.Str.{bytes_eq}
use Rattle.std.specs.Int.Digits.{number_from_digits}
use Rattle.std.specs.Cmp.Lexicographic.{bytes_decides}
use Rattle.std.proofs.lemmas.Bool.{cases_Bool, and_parts}
use Rattle.std.proofs.lemmas.Bool.Decides.{nat_tests}
use Rattle.std.proofs.lemmas.Int.Digits.{number_digits_of}
use Rattle.fil_base.specs.declared.token.TheConstants.{GREATEST_AMOUNT}
use Rattle.fil_base.specs.declared.amount.TokenFault.{TokenFault}
use Rattle.fil_base.specs.Amount.{amount, IsTokenFault}
use Rattle.fil_base.proofs.Magnitude.{amount-positive, refused_is_no_amount}
use Rattle.cbor_fields.specs.declared.field_fault.FieldKind.TheVariants.{OutOfRange}
use Rattle.cbor_fields.specs.Readers.{amount_of}

-- the number of an amount's bytes is the amount
number_from_amount : (n : ℕ) → number_from_digits 256 (amount n) ≡ n
unfolding amount
number_from_amount zero = refl
number_from_amount (suc n) = ap (number_from_digits 256) (amount-positive (suc n) (omega arith)) ∙ number_digits_of 256 (suc n) (lit≤ tt)

pub amount_found : (bytes : List ℕ) (n : ℕ) → n ≤ GREATEST_AMOUNT → bytes ≡ amount n → amount_of bytes ≡ Ok n
unfolding amount_of
amount_found bytes n small is =
    let number : number_from_digits 256 bytes ≡ n = ap (number_from_digits 256) is ∙ number_from_amount n in
    let fits : leb n GREATEST_AMOUNT ≡ true = grind (arith, nat_tests) in
    rw (number, (bytes_decides bytes (amount n)).1 is, fits) refl

pub amount_refused : (bytes : List ℕ) (fault : TokenFault) → IsTokenFault bytes fault → amount_of bytes ≡ Err OutOfRange
unfolding amount_of
amount_refused bytes fault refused =
    let n : ℕ = number_from_digits 256 bytes in
    let passes : Bool = bytes_eq bytes (amount n) && leb n GREATEST_AMOUNT in
    elim (cases_Bool passes) [
      | inl yes_passes ↦
          let both = and_parts (bytes_eq bytes (amount n)) (leb n GREATEST_AMOUNT) yes_passes in
          let small : n ≤ GREATEST_AMOUNT = grind (arith, nat_tests, both.1) in
          absurd (refused_is_no_amount bytes fault n refused small ((bytes_decides bytes (amount n)).0 both.0))
      | inr fails ↦ rw fails refl
    ]
