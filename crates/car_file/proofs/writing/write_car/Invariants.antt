use Rattle.std.proofs.Common.{◌≡◌, take}
use Rattle.car_file.specs.Car.{car}
use Rattle.car_file.proofs.writing.write_car.Given as goal

abbrev pub invariant-loop-block : goal.invariant-loop-block
invariant-loop-block l = l.out.items ≡ car l.root (take l.block-index l.blocks)
