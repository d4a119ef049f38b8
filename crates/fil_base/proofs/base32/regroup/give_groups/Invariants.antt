use Rattle.std.proofs.Common.{ℕ, ◌^◌, ◌<◌, ◌≤◌}
use Rattle.fil_base.specs.Regroup.{Regroups}
use Rattle.fil_base.proofs.base32.regroup.give_groups.Given as goal

abbrev pub invariant-loop-rest : goal.invariant-loop-rest
invariant-loop-rest l = record {
  few : l.rest.count ≤ 16;
  fits : l.rest.bits < 2 ^ l.rest.count;
  regroups : (n total : ℕ) → Regroups n total l.to l.initial.groups.items l.initial.rest.bits l.initial.rest.count → Regroups n total l.to l.groups.items l.rest.bits l.rest.count;
}

abbrev pub decreases-loop-rest : goal.decreases-loop-rest
decreases-loop-rest l = l.rest.count
