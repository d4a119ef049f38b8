use Rattle.std.proofs.Common.{◌≡◌, ◌<◌, ℕ, length, get_or}
use Rattle.block_base.specs.Index.{cid_at}
use Rattle.block_base.specs.Names.{IsName}
use Rattle.block_base.specs.declared.name.Name.{Name}
use Rattle.block_base.proofs.name.names_of.Given as goal

abbrev pub invariant-loop-place : goal.invariant-loop-place
invariant-loop-place l =
    (length l.names.items ≡ l.place) × ((k : ℕ) (d : Name) → k < length l.names.items → IsName (get_or l.names.items k d) (cid_at l.blocks k) k)
