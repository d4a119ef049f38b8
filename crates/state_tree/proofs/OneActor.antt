-- One actor has an ID of its own.
use Rattle.std.specs.Prelude.{ℕ, [], ◌∷◌, nat_eq}
use Rattle.std.specs.List.{IsDistinct}

pub one_distinct : (id : ℕ) → IsDistinct nat_eq (id ∷ [])
unfolding IsDistinct
one_distinct id = (tt, tt)
