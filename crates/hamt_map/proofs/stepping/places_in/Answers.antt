use Rattle.std.proofs.Common.{◌<◌, ◌^◌, length, rules}
use Rattle.hamt_map.proofs.AheadSteps.{places_ahead}
use Rattle.hamt_map.proofs.stepping.places_in.Goals as goal

pub returns : goal.returns
returns c = λ below ps is fit.
    let short : length c.args.bytes.now < 2 ^ 64 = search rules in
    let two_fits : c.in_ok-parts.field-0-0 < 2 ^ 64 = search rules in
    let count_fits : c.in_ok-pointers.field-0-0 < 2 ^ 64 = search rules in
    places_ahead below ps c.args.bytes.now c.in_ok-parts.parts.now c.in_ok-field.field.now c.in_ok-field.behind.now c.in_ok-pointers.pointers.now c.in_ok-parts.field-0-0 c.in_ok-pointers.field-0-0 c.in_ok-bits.bits
    short two_fits count_fits c.in_ok-parts.ensures.found c.in_ok-field.ensures.found c.in_ok-pointers.ensures.found c.in_ok-bits.ensures is fit
