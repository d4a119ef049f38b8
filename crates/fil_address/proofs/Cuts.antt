-- Bytes, and the four last of them.
use Rattle.std.proofs.Common.{◌≡◌, ℕ, ◌+◌, ◌<◌, List, ◌++◌, length, take, drop, sym, ap, ◌∙◌, length-append, arith}
use Rattle.std.specs.Prelude.{All}
use Rattle.std.proofs.lemmas.List.{take-append-drop}
use Rattle.std.proofs.lemmas.List.Elements.{All-drop, All-same}
use Rattle.fil_address.specs.AddressBytes.{AreBytes}

-- bytes are cut into the first ones and the four last ones
pub record IsCut (bytes front back : List ℕ) : Type 0 where
  pub whole : bytes ≡ front ++ back
  pub four : AreBytes back 4

pub cut_at : (bytes front back : List ℕ) (i : ℕ) → All (λ byte. byte < 256) bytes → front ≡ take i bytes → back ≡ drop i bytes → length front + 4 ≡ length bytes → IsCut bytes front back
cut_at bytes front back i below is_front is_back size =
    let whole : bytes ≡ front ++ back = sym (take-append-drop i bytes) ∙ (λ k. sym is_front k ++ sym is_back k) in
    record {
      whole = whole;
      four = (omega (arith, ap length whole, length-append front back), All-same (λ byte. byte < 256) back (drop i bytes) is_back (All-drop (λ byte. byte < 256) i bytes below));
    }
