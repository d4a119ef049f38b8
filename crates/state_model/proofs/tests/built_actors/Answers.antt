use Rattle.std.proofs.Common.{[], ◌∷◌, nat_eq, refl, sym, subst}
use Rattle.std.specs.List.{IsDistinct}
use Rattle.state_model.proofs.tests.built_actors.Goals as goal

apart : IsDistinct nat_eq (1 ∷ 2 ∷ 99 ∷ [])
unfolding IsDistinct
apart = ((refl, (refl, tt)), ((refl, tt), (tt, tt)))

pub state_blocks-requires : goal.state_blocks-requires
state_blocks-requires c = subst (IsDistinct nat_eq) (sym c.requires) apart
