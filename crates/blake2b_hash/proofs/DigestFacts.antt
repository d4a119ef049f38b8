-- The constants and the function against what the standard says of them, so that a wrong constant or step in specs/ does
-- not check; and the length of a digest, for callers.
use Rattle.std.proofs.Common.{◌≡◌, ℕ, ◌+◌, ◌-◌, ◌*◌, ◌^◌, ◌≤◌, Bool, true, ◌&&◌, List, [], ◌∷◌, ◌++◌, length, take, replicate, codes, refl, nat_lt, nat_le, nat_eq}
use Rattle.std.proofs.lemmas.List.{length-take-le, take_at}
use Rattle.std.specs.Prelude.{slice_index}
use Rattle.std.specs.List.{list_all, list_any}
use Rattle.blake2b_hash.specs.Tables.{iv, sigma}
use Rattle.blake2b_hash.specs.Compression.{compress, mix, round, rounds, words_of}
use Rattle.blake2b_hash.specs.Blake.{blake, bytes_of, final_state, state_after}

-- whether the word is the first 64 bits of the fraction of the square root of n, whose whole part is given
abbrev is_root_fraction : ℕ → ℕ → ℕ → Bool
is_root_fraction n whole word =
    let root = whole * 2 ^ 64 + word in
    nat_le (root * root) (n * 2 ^ 128) && nat_lt (n * 2 ^ 128) ((root + 1) * (root + 1))

-- the vector IV is made from the square roots of the first eight primes (section 2.6)
pub iv-square_roots :
    (is_root_fraction 2 1 (slice_index iv 0) && is_root_fraction 3 1 (slice_index iv 1)
    && is_root_fraction 5 2 (slice_index iv 2) && is_root_fraction 7 2 (slice_index iv 3)
    && is_root_fraction 11 3 (slice_index iv 4) && is_root_fraction 13 3 (slice_index iv 5)
    && is_root_fraction 17 4 (slice_index iv 6) && is_root_fraction 19 4 (slice_index iv 7)) ≡ true
iv-square_roots = refl

-- each row of the message schedule names each message word (section 2.7)
pub sigma-permutations :
    list_all (λ row. list_all (λ k. list_any (λ j. nat_eq j k) row)
    (0 ∷ 1 ∷ 2 ∷ 3 ∷ 4 ∷ 5 ∷ 6 ∷ 7 ∷ 8 ∷ 9 ∷ 10 ∷ 11 ∷ 12 ∷ 13 ∷ 14 ∷ 15 ∷ [])) sigma ≡ true
sigma-permutations = refl

-- the standard's example (Appendix A)
pub digest_of_abc : blake 64 (codes "abc") ≡
    0xBA ∷ 0x80 ∷ 0xA5 ∷ 0x3F ∷ 0x98 ∷ 0x1C ∷ 0x4D ∷ 0x0D ∷ 0x6A ∷ 0x27 ∷ 0x97 ∷ 0xB6 ∷ 0x9F ∷ 0x12 ∷ 0xF6 ∷ 0xE9
    ∷ 0x4C ∷ 0x21 ∷ 0x2F ∷ 0x14 ∷ 0x68 ∷ 0x5A ∷ 0xC4 ∷ 0xB7 ∷ 0x4B ∷ 0x12 ∷ 0xBB ∷ 0x6F ∷ 0xDB ∷ 0xFF ∷ 0xA2 ∷ 0xD1
    ∷ 0x7D ∷ 0x87 ∷ 0xC5 ∷ 0x39 ∷ 0x2A ∷ 0xAB ∷ 0x79 ∷ 0x2D ∷ 0xC2 ∷ 0x52 ∷ 0xD5 ∷ 0xDE ∷ 0x45 ∷ 0x33 ∷ 0xCC ∷ 0x95
    ∷ 0x18 ∷ 0xD3 ∷ 0x8A ∷ 0xA8 ∷ 0xDB ∷ 0xF1 ∷ 0x92 ∷ 0x5A ∷ 0xB9 ∷ 0x23 ∷ 0x86 ∷ 0xED ∷ 0xD4 ∷ 0x00 ∷ 0x99 ∷ 0x23 ∷ []
unfolding blake compress words_of rounds round mix state_after
digest_of_abc = refl

-- a digest has the length that was asked for
pub length-blake : (len : ℕ) (message : List ℕ) → len ≤ 64 → length (blake len message) ≡ len
unfolding blake compress
length-blake len message fits = length-take-le len (bytes_of (final_state len message)) fits

-- a digest without the zeros that follow it
pub take-digest : (len : ℕ) (message : List ℕ) → len ≤ 64 → take len (blake len message ++ replicate (64 - len) 0) ≡ blake len message
take-digest len message fits = take_at (blake len message) (replicate (64 - len) 0) len (length-blake len message fits)
