-- The bytes of a number that have their top bit.
use Rattle.std.specs.Prelude.{◌≡◌, ◌<◌, ◌≤◌, ◌+◌, ◌-◌, ◌*◌, ◌^◌, ◌/◌, ℕ, List, [], length, drop, slice_index, Ok, ◌==◌, if◌then◌else◌}
use Rattle.wasm_decode.specs.declared.number.Groups.{Groups}
use Rattle.wasm_decode.specs.ReadingValues.{signed_from, unsigned_from}
use Rattle.wasm_decode.specs.Stops.{◌>>=◌, Found}

-- a number whose low bits are `low`, and whose others count `scale`
abbrev pub with_low : ℕ → ℕ → Found ℕ → Found ℕ
with_low low scale read = read >>= λ x. Ok (low + scale * x.0, x.1)

-- these bytes are led by such groups, at most so many: what a number is goes on behind them
pub record AreGroups (most : ℕ) (bytes : List ℕ) (g : Groups) : Type 0 where
  pub within : g.count ≤ most
  pub inside : g.count ≤ length bytes
  pub scale : g.scale ≡ 128 ^ g.count
  pub low : g.low < g.scale
  pub unsigned : (top : ℕ) (place : List ℕ) → unsigned_from most top place bytes
      ≡ with_low g.low g.scale (unsigned_from (most - g.count) top place (drop g.count bytes))
  pub signed : (top : ℕ) (place : List ℕ) → signed_from most top place bytes
      ≡ with_low g.low g.scale (signed_from (most - g.count) top place (drop g.count bytes))

-- and they are all there are of them
abbrev pub IsLed : ℕ → List ℕ → Groups → Type 0
IsLed most bytes g = AreGroups most bytes g × (g.count < most → g.count < length bytes → slice_index bytes g.count < 128)

-- there is nothing but such groups
abbrev pub IsOnlyLed : ℕ → List ℕ → Type 0
IsOnlyLed most bytes = (g : Groups) × AreGroups most bytes g × (drop g.count bytes ≡ [])

-- what a byte is below where so many may follow it, and the last one is below `top`
abbrev pub last_bound : ℕ → ℕ → ℕ
last_bound more top = if more == 0 then top else 128

-- what a last byte is below that tells no sign, where so many may follow it, and the last one has bits below `top`
abbrev pub half : ℕ → ℕ → ℕ
half more top = if more == 0 then top / 2 else 64

-- so many groups and bits below `top` have this greatest number
pub record IsWidth (groups top greatest : ℕ) : Type 0 where
  pub few : groups ≤ 9
  pub even : top ≡ top / 2 + top / 2
  pub least : 1 ≤ top / 2
  pub small : top ≤ 128
  pub full : greatest + 1 ≡ top * 128 ^ groups
