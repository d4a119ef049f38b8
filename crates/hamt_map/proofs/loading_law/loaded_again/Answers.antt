use Rattle.hamt_map.proofs.LoadedAgain.{loaded_again}
use Rattle.hamt_map.proofs.loading_law.loaded_again.Goals as goal

pub returns : goal.returns
returns c = λ blocks m values keys count held. loaded_again blocks 50 m (record { values = values; keys = keys; count = count }) held
