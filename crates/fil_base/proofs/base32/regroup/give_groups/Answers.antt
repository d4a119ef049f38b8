use Rattle.std.proofs.Common.{arith}
use Rattle.fil_base.proofs.Regroups.{given, group_fits, rest_fits}
use Rattle.fil_base.proofs.base32.regroup.give_groups.Goals as goal

pub overflow_cast-rest : goal.overflow_cast-rest
overflow_cast-rest c =
    omega (arith, group_fits c.loop-rest.rest.bits c.loop-rest.rest.count c.args.to c.loop-rest.invariant.fits c.loop-rest-test.true c.requires.to)

pub loop-rest-preserved : goal.loop-rest-preserved
loop-rest-preserved c =
    let rest = c.loop-rest.rest in
    record {
      few = omega arith;
      fits = rest_fits rest.bits _ (omega arith);
      regroups = λ n total start. given n total c.args.to c.loop-rest.groups.items c.push.new.self.items rest.bits rest.count c.loop-rest.invariant.few c.loop-rest-test.true c.in_ok-push.ensures.items (c.loop-rest.invariant.regroups n total start);
    }
