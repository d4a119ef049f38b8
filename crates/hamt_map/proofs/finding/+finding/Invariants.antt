use Rattle.std.proofs.Common.{◌*◌, ◌+◌}
use Rattle.hamt_map.proofs.finding.+finding.Given as goal

abbrev pub decreases-find_under : goal.decreases-find_under
decreases-find_under g l = 2 * l.below + 1

abbrev pub decreases-find_behind : goal.decreases-find_behind
decreases-find_behind g l = 2 * l.below
