-- Alignments that are too great.
use Rattle.std.proofs.Common.{◌≡◌, ℕ, ◌^◌, ◌<◌, ◌≤◌, nat_le, false, sym, arith}
use Rattle.std.proofs.lemmas.Bool.{lt-leb}
use Rattle.std.proofs.lemmas.Nat.{pow_below}

-- an alignment above 8 bytes is above each width
pub above_all : (align width : ℕ) → 3 < align → width ≤ 8 → false ≡ nat_le (2 ^ align) width
above_all align width high narrow = let above : 8 < 2 ^ align = pow_below 3 align high in sym (lt-leb (2 ^ align) width (omega arith))
