use Rattle.std.proofs.Common.{ℕ, List}
use Rattle.cid_core.specs.BlockParts.{BlockParts}
use Rattle.hamt_map.specs.Stands as hamt
use Rattle.state_tree.specs.Actors.{Actors, AreActors, records}
use Rattle.state_tree.proofs.Overlay.{LeftOf, Written}
use Rattle.state_tree.proofs.changed.Changed.write_into.Given as goal

abbrev pub invariant-loop-id : goal.invariant-loop-id
invariant-loop-id l =
    LeftOf l.self l.id-iterator
    × ((blocks : List BlockParts) (kept : Actors) → AreActors kept → hamt.Stands l.fn.tree blocks (records kept)
    → (written : Actors) × hamt.Stands l.tree blocks (records written) × Written l.self kept l.id-iterator written)
