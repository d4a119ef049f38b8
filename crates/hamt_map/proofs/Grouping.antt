-- Pairs by their places.
use Rattle.std.proofs.Common.{◌≡◌, ℕ, ◌<◌, get_or, arith}
use Rattle.std.proofs.lemmas.List.FromFn.{get_or-map-range_with_len}
use Rattle.hamt_map.specs.Pairs.{Pairs, at_place}
use Rattle.hamt_map.specs.Groups.{by_place}

pub group_at : (level k : ℕ) (pairs : Pairs) (d : Pairs) → k < 32 → get_or (by_place level pairs) k d ≡ at_place level k pairs
group_at level k pairs d within = get_or-map-range_with_len (λ place. at_place level place pairs) 0 32 k k d within (omega arith)
