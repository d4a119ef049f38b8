use Rattle.std.proofs.Common.{◌/◌, ◌<◌, ◌^◌, length, refl, rules}
use Rattle.hamt_map.proofs.AheadSteps.{no_pointer_next, pointer_next}
use Rattle.hamt_map.proofs.stepping.Ahead.step.Goals as goal

pub returns-then-self-eq0 : goal.returns-then-self-eq0
returns-then-self-eq0 c = λ below group more ahead.
    no_pointer_next below group more c.args.self.now.bits (c.args.self.now.bits / 2) c.args.self.now.pointers.now ahead refl c.if-self-eq0.true

pub returns : goal.returns
returns c = λ below group more ahead.
    let short : length c.args.self.now.pointers.now < 2 ^ 64 = search rules in
    let item = c.in_ok-pointer.ensures.found in
    pointer_next below group more c.args.self.now.bits (c.args.self.now.bits / 2) c.args.self.now.pointers.now c.in_ok-pointer.pointer.now c.in_ok-pointer.pointers.now item.0
    short item.1 item.2 item.3 ahead refl c.if-self-eq0.false
