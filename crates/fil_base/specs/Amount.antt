-- Amounts of tokens as bytes (Filecoin specification, "Token amounts").
use Rattle.std.specs.Prelude.{◌≡◌, ◌≢◌, ◌<◌, ◌⊎◌, ◌==◌, ℕ, List, [], ◌∷◌, if◌then◌else◌}
use Rattle.std.specs.Int.Digits.{digits_of}
use Rattle.fil_base.specs.declared.token.TheConstants.{GREATEST_AMOUNT}
use Rattle.fil_base.specs.declared.amount.TokenFault.{TokenFault}
use Rattle.fil_base.specs.declared.amount.TokenFault.TheVariants.{Sign, Zeros, TooGreat}

-- the one spelling of an amount: nothing for 0, else the sign 00 and the magnitude, big-endian without leading zeros
unfoldable pub amount : ℕ → List ℕ
amount n = if n == 0 then [] else (0 ∷ digits_of 256 n)

-- why bytes spell no amount that a token can have
abbrev pub IsTokenFault : List ℕ → TokenFault → Type 0
IsTokenFault bytes Sign = (sign : ℕ) × (rest : List ℕ) × (sign ≢ 0) × (bytes ≡ sign ∷ rest)
IsTokenFault bytes Zeros = (bytes ≡ 0 ∷ []) ⊎ ((rest : List ℕ) × (bytes ≡ 0 ∷ (0 ∷ rest)))
IsTokenFault bytes TooGreat = (n : ℕ) × (GREATEST_AMOUNT < n) × (bytes ≡ amount n)
