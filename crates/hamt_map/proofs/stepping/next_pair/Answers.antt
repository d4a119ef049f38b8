use Rattle.std.proofs.Common.{◌<◌, ◌^◌, length, rules}
use Rattle.hamt_map.proofs.AheadSteps.{pair_next}
use Rattle.hamt_map.proofs.stepping.next_pair.Goals as goal

pub returns : goal.returns
returns c = λ p more ahead.
    let short : length c.args.bytes.now < 2 ^ 64 = search rules in
    let two_fits : c.in_ok-parts.field-0-0 < 2 ^ 64 = search rules in
    let item = c.in_ok-spelling.ensures.found in
    pair_next p more c.args.bytes.now c.in_ok-parts.parts.now c.in_ok-key.key.now c.in_ok-key.behind.now c.in_ok-spelling.spelling.now c.in_ok-spelling.rest.now c.in_ok-parts.field-0-0 item.0
    short two_fits c.in_ok-parts.ensures.found c.in_ok-key.ensures.found item.1 item.2 item.3 ahead
