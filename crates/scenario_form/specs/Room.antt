-- Awards that a state has room for.
use Rattle.std.specs.Prelude.{◌≡◌, ℕ, suc, ◌<◌, Bool, true, false, List, length, take}
use Rattle.std.specs.List.{list_all}
use Rattle.std.specs.declared.option.Option.{Option}
use Rattle.std.specs.declared.option.Option.TheVariants.{None, Some}
use Rattle.fil_message.specs.Tipsets.{awards}
use Rattle.fil_message.specs.declared.tipset.Tipset.{Tipset}
use Rattle.state_model.specs.State.{State, has_room_for}

-- a state has room for the awards of each tipset by itself
abbrev pub all_fit : State → List Tipset → Bool
all_fit s tipsets = list_all (λ t. has_room_for (awards t) s) tipsets

-- there is room for each, or for those before a place and not for the one there
abbrev pub IsFirstOver : State → List Tipset → Option ℕ → Type 0
IsFirstOver s tipsets None = all_fit s tipsets ≡ true
IsFirstOver s tipsets (Some at) =
    (at < length tipsets) × (all_fit s (take at tipsets) ≡ true) × (all_fit s (take (suc at) tipsets) ≡ false)
