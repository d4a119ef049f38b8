-- Actors that lie over others.
use Rattle.std.specs.Prelude.{◌≡◌, ℕ, List, ◌++◌}
use Rattle.std.specs.FinMap.{entries, from_entries}
use Rattle.state_tree.specs.Actors.{Actors, AreActors}
use Rattle.state_tree.specs.declared.actor.Actor.{Actor}

-- actors, and under them others, which count where an ID has none above
abbrev pub over : Actors → Actors → Actors
over own kept = from_entries (entries own ++ entries kept)

-- these are actors by rising ID
abbrev pub AreEntries : List (ℕ × Actor) → Type 0
AreEntries es = (actors : Actors) × (es ≡ entries actors) × AreActors actors
