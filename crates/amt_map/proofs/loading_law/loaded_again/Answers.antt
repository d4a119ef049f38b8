use Rattle.amt_map.proofs.RootAgain.{map_again}
use Rattle.amt_map.proofs.loading_law.loaded_again.Goals as goal

pub returns : goal.returns
returns c = map_again
