use Rattle.std.proofs.Common.{◌<◌, ◌^◌, arith, rules}
use Rattle.amt_map.proofs.tests.append.Goals as goal

pub append-requires-clause-count : goal.append-requires-clause-count
append-requires-clause-count c =
    let small : c.count.result < 2 ^ 60 = search rules in
    let is = c.count.ensures _ in
    (is.0, is.1, omega (arith, small, is.2))
