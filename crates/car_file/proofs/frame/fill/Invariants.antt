use Rattle.std.proofs.Common.{◌≡◌, ◌++◌, length, take}
use Rattle.car_file.specs.CarFault.{IsCut}
use Rattle.car_file.specs.Frame.{HasNothingBehind}
use Rattle.car_file.proofs.frame.fill.Given as goal

abbrev pub invariant-loop-rest : goal.invariant-loop-rest
invariant-loop-rest l = record {
  all : l.begun.items ++ l.rest ≡ l.fn.begun.items ++ l.piece;
  just : IsCut l.fn.begun.items → HasNothingBehind l.begun.items;
  kept : take (length l.fn.begun.items) l.begun.items ≡ l.fn.begun.items;
}

abbrev pub decreases-loop-rest : goal.decreases-loop-rest
decreases-loop-rest l = length l.rest
