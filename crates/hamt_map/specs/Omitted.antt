-- Blocks of a tree without some that a base holds.
use Rattle.std.specs.Prelude.{◌≡◌, ◌⊎◌, List, [], ◌∷◌, ◌++◌}
use Rattle.std.specs.declared.option.Option.TheVariants.{Some}
use Rattle.cid_core.specs.BlockParts.{BlockParts, found}

-- each block of all is held and left out, or is the next of some
abbrev pub Omits : List BlockParts → List BlockParts → List BlockParts → Type 0
Omits held some [] = some ≡ []
Omits held some (b ∷ all) = ((found held b.cid ≡ Some b) × Omits held some all)
    ⊎ ((rest : List BlockParts) × (some ≡ b ∷ rest) × Omits held rest all)

-- behind the old blocks stand all of a tree's, without some that are held
pub record Adds (held old new all : List BlockParts) : Type 0 where
  pub some : List BlockParts
  pub put : new ≡ old ++ some
  pub left : Omits held some all
