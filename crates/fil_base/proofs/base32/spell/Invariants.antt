use Rattle.std.proofs.Common.{◌≡◌, drop, map, take}
use Rattle.fil_base.specs.Base32.{letter}
use Rattle.fil_base.proofs.base32.spell.Given as goal

abbrev pub invariant-loop-group : goal.invariant-loop-group
invariant-loop-group l = record {
  front : take l.group-index l.group-items ≡ map letter (take l.group-index l.fn.groups.items);
  back : drop l.group-index l.group-items ≡ drop l.group-index l.fn.groups.items;
}
