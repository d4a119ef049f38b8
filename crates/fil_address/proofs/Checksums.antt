-- What a checksum is made of.
use Rattle.std.proofs.Common.{zero, suc, ℕ, ◌<◌, List, [], ◌∷◌, arith}
use Rattle.std.specs.Prelude.{All}
use Rattle.std.specs.Int.{w64, byte_at, bytes_low_first, to_le_bytes}
use Rattle.std.proofs.lemmas.List.Elements.{All-append, All-cons, All-nil, All-take}
use Rattle.blake2b_hash.specs.Blake.{blake, bytes_of, final_state}
use Rattle.blake2b_hash.proofs.DigestFacts.{length-blake}
use Rattle.fil_address.specs.AddressBytes.{AreBytes}
use Rattle.fil_address.specs.AddressText.{checksum}

byte_at-lt : (i n : ℕ) → byte_at i n < 256
byte_at-lt zero n = omega arith
byte_at-lt (suc i) n = omega arith

below_low_first : (i k n : ℕ) → All (λ byte. byte < 256) (bytes_low_first i k n)
below_low_first i zero n = All-nil (λ byte. byte < 256)
below_low_first i (suc k) n = All-cons (λ byte. byte < 256) (byte_at i n) (bytes_low_first (suc i) k n) (byte_at-lt i n) (below_low_first (suc i) k n)

below_words : (words : List ℕ) → All (λ byte. byte < 256) (bytes_of words)
below_words [] = All-nil (λ byte. byte < 256)
below_words (word ∷ words) = All-append (λ byte. byte < 256) (to_le_bytes w64 word) (bytes_of words) (below_low_first 0 8 word) (below_words words)

pub AreBytes-checksum : (message : List ℕ) → AreBytes (checksum message) 4
unfolding blake
AreBytes-checksum message = (length-blake 4 message (omega arith), All-take (λ byte. byte < 256) 4 (bytes_of (final_state 4 message)) (below_words (final_state 4 message)))
