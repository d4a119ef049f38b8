use Rattle.std.proofs.Common.{◌<◌, ◌^◌, length, rules}
use Rattle.hamt_map.proofs.AheadSteps.{bucket_ahead}
use Rattle.hamt_map.proofs.stepping.pairs_in.Goals as goal

pub returns : goal.returns
returns c = λ ps is fit.
    let short : length c.args.bytes.now < 2 ^ 64 = search rules in
    let fits : c.in_ok-count.count < 2 ^ 64 = search rules in
    bucket_ahead ps c.args.bytes.now c.in_ok-count.pairs.now c.in_ok-count.count short fits c.in_ok-count.ensures.found is fit
