use Rattle.std.proofs.Common.{ℕ, List, length}
use Rattle.car_file.specs.Sections.{AreRead}
use Rattle.car_file.proofs.section_reader.SectionReader.read.Given as goal

abbrev pub invariant-loop-blocks : goal.invariant-loop-blocks
invariant-loop-blocks l = (front given : List ℕ) → AreRead front l.fn.blocks.items l.begin l.bytes given
    → AreRead front l.blocks.items l.end l.rest given

abbrev pub decreases-loop-blocks : goal.decreases-loop-blocks
decreases-loop-blocks l = length l.rest
