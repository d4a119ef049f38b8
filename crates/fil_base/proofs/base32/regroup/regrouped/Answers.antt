use Rattle.std.proofs.Common.{◌≡◌, ◌*◌, ◌^◌, ◌<◌, lit<, sym, subst, arith}
use Rattle.fil_base.specs.Regroup.{Regroups}
use Rattle.fil_base.proofs.Regroups.{more_fits, regroup_next, regroup_none}
use Rattle.fil_base.proofs.base32.regroup.regrouped.Goals as goal

pub loop-item-init : goal.loop-item-init
loop-item-init c =
    let none : 0 ≡ c.args.from * 0 = omega arith in
    record {
      few = c.requires.some;
      fits = lit< tt;
      regroups = subst (λ t. Regroups 0 t c.args.to c.new-groups.result.items 0 0) none (regroup_none c.args.to c.new-groups.result.items c.new-groups.ensures.items);
    }

pub give_groups-requires-clause-fits : goal.give_groups-requires-clause-fits
give_groups-requires-clause-fits c =
    let below : c.from.result < 2 ^ c.args.from = subst (λ x. x < 2 ^ c.args.from) (sym c.from.ensures) (c.requires.items c.loop-item.item-index 0 (omega arith)) in
    more_fits c.loop-item.pending.bits c.loop-item.pending.count c.args.from c.from.result c.loop-item.invariant.fits (omega (arith, c.loop-item.invariant.few, c.requires.to)) c.requires.from below

pub loop-item-preserved : goal.loop-item-preserved
loop-item-preserved c =
    let below : c.from.result < 2 ^ c.args.from = subst (λ x. x < 2 ^ c.args.from) (sym c.from.ensures) (c.requires.items c.loop-item.item-index 0 (omega arith)) in
    record {
      few = c.in_ok-pending.ensures.few;
      fits = c.in_ok-pending.ensures.fits;
      regroups = c.in_ok-pending.ensures.regroups _ _ (regroup_next c.args.items.now c.loop-item.item-index c.args.from c.args.to c.loop-item.groups.items c.loop-item.pending.bits c.loop-item.pending.count c.from.result c.loop-item.invariant.regroups (omega arith) c.from.ensures below c.loop-item.invariant.fits (omega (arith, c.loop-item.invariant.few, c.requires.to)) c.requires.from);
    }
