use Rattle.std.proofs.Common.{[], ◌∷◌}
use Rattle.init_names.proofs.tests.a_copy_is_changed_alone.Goals as goal

pub assigned-requires-clause-state : goal.assigned-requires-clause-state
assigned-requires-clause-state g c =
    let state = c.in_ok-names.ensures in
    (state.0, c.in_ok-copy.ensures (c.in_ok-base.base.first ∷ c.in_ok-base.base.second ∷ []) state.0 state.1)
