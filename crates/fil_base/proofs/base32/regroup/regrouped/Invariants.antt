use Rattle.std.proofs.Common.{◌*◌, ◌^◌, ◌<◌, take}
use Rattle.std.specs.Int.Digits.{number_from_digits}
use Rattle.fil_base.specs.Regroup.{Regroups}
use Rattle.fil_base.proofs.base32.regroup.regrouped.Given as goal

abbrev pub invariant-loop-item : goal.invariant-loop-item
invariant-loop-item l = record {
  few : l.pending.count < l.to;
  fits : l.pending.bits < 2 ^ l.pending.count;
  regroups : Regroups (number_from_digits (2 ^ l.from) (take l.item-index l.items)) (l.from * l.item-index) l.to l.groups.items l.pending.bits l.pending.count;
}
