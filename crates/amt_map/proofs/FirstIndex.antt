-- The first index of a child.
use Rattle.std.proofs.Common.{◌≡◌, ℕ, zero, suc, ◌+◌, ◌*◌, ◌^◌, ◌<◌, ◌≤◌, refl, sym, ap, ◌∙◌, arith, pow-add}
use Rattle.std.proofs.Math.Nat.{pow-suc}
use Rattle.std.proofs.Math.Pow.{pow_mono}
use Rattle.amt_map.proofs.NodePlaces.{pow-8}

-- digits are at most 7, so that each product is of a number
room_at : (digit apart from all : ℕ) → digit < 8 → from + apart * 8 ≤ all → from + digit * apart + apart ≤ all
room_at zero apart from all lt room = omega (arith, room)
room_at (suc zero) apart from all lt room = omega (arith, room)
room_at (suc (suc zero)) apart from all lt room = omega (arith, room)
room_at (suc (suc (suc zero))) apart from all lt room = omega (arith, room)
room_at (suc (suc (suc (suc zero)))) apart from all lt room = omega (arith, room)
room_at (suc (suc (suc (suc (suc zero))))) apart from all lt room = omega (arith, room)
room_at (suc (suc (suc (suc (suc (suc zero)))))) apart from all lt room = omega (arith, room)
room_at (suc (suc (suc (suc (suc (suc (suc zero))))))) apart from all lt room = omega (arith, room)
room_at (suc (suc (suc (suc (suc (suc (suc (suc digit)))))))) apart from all lt room = absurd (omega (arith, lt))

pub child_room : (height from digit all : ℕ) → digit < 8 → from + 8 ^ suc (suc height) ≤ all → from + digit * 8 ^ suc height + 8 ^ suc height ≤ all
child_room height from digit all lt room =
    let above : 8 ^ suc (suc height) ≡ 8 ^ suc height * 8 = pow-suc 8 (suc height) in
    room_at digit (8 ^ suc height) from all lt (omega (arith, room, above))

pub child_place : (height place from digit : ℕ) → from ≡ place * 8 ^ suc (suc height) → from + digit * 8 ^ suc height ≡ (place * 8 + digit) * 8 ^ suc height
child_place height place from digit is =
    let apart : ℕ = 8 ^ suc height in
    let above : 8 ^ suc (suc height) ≡ apart * 8 = pow-suc 8 (suc height) in
    let split : place * (apart * 8) + digit * apart ≡ (place * 8 + digit) * apart = omega arith in
    ap (λ (p : ℕ). p + digit * apart) (is ∙ ap (λ (p : ℕ). place * p) above) ∙ split

-- the indexes of a tree are below 2 ^ 60
pub root_room : (height : ℕ) → height ≤ 19 → 0 + 8 ^ suc height ≤ 2 ^ 60
root_room height low =
    let within : 3 * suc height ≤ 60 = omega (arith, low) in
    let most : 2 ^ (3 * suc height) ≤ 2 ^ 60 = pow_mono within in
    omega (arith, pow-8 (suc height), most)
