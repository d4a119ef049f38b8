-- The parts of what a message pays are no more than the fee cap for each unit of the limit.
use Rattle.std.proofs.Common.{◌≡◌, ◌+◌, ◌*◌, ◌≤◌, ℕ, ap, arith}
use Rattle.std.proofs.Math.Nat.{mul-le-mul_left}

pub parts_within : (pay rest cap used wasted limit tip : ℕ) → pay + rest ≡ cap → used + wasted ≤ limit → tip ≤ rest → pay * used + pay * wasted + tip * limit ≤ cap * limit
parts_within pay rest cap used wasted limit tip cap_is gas tip_fits =
    let burned : pay * (used + wasted) ≤ pay * limit = mul-le-mul_left pay gas in
    let paid : limit * tip ≤ limit * rest = mul-le-mul_left limit tip_fits in
    let whole : (pay + rest) * limit ≡ cap * limit = ap (λ (x : ℕ). x * limit) cap_is in
    omega (arith, burned, paid, whole)
