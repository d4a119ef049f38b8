-- Where an instruction leaves the blocks, beside the blocks.
use Rattle.wasm_decode.specs.declared.expression.Place.{Place}
use Rattle.wasm_decode.specs.declared.expression.Place.TheVariants.{Inside, Ended, Misplaced}
use Rattle.wasm_decode.specs.Instructions.{Nesting, Opened, inside, ended, misplaced}

-- the place with these blocks open
abbrev pub nesting_of : Place → Opened → Nesting
nesting_of Inside opened = inside opened
nesting_of Ended opened = ended
nesting_of Misplaced opened = misplaced
