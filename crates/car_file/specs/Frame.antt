-- What stands at the front of bytes where some are wanted behind their length, and what more bytes change.
use Rattle.std.specs.Prelude.{◌≡◌, ℕ, List, []}
use Rattle.car_file.specs.CarFault.{HasBadLength, IsCut, IsFramed}
use Rattle.car_file.specs.declared.frame.FrameFault.{FrameFault}
use Rattle.car_file.specs.declared.frame.FrameFault.TheVariants.{Cut, BadLength}

-- why no bytes stand at the front behind their length
abbrev pub IsFrameFault : List ℕ → FrameFault → Type 0
IsFrameFault bytes Cut = IsCut bytes
IsFrameFault bytes BadLength = HasBadLength bytes

-- where bytes stand at the front behind their length, no others follow
abbrev pub HasNothingBehind : List ℕ → Type 0
HasNothingBehind bytes = (content rest : List ℕ) → IsFramed bytes content rest → rest ≡ []
