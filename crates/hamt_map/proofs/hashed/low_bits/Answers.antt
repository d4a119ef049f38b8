use Rattle.std.proofs.Common.{◌≡◌, ◌<◌, ◌*◌, ◌/◌, ◌%◌, ◌^◌, ◌-◌, ℕ, List, length, set, refl, ap, arith, rules}
use Rattle.std.proofs.lemmas.List.Elements.{All-from_get_or, recursion_from_All}
use Rattle.hamt_map.proofs.LowBits.{low_number, short_power}
use Rattle.hamt_map.proofs.hashed.low_bits.Goals as goal

pub returns : goal.returns
returns c =
    let long : length c.args.hash ≡ 32 = search rules in
    let below = recursion_from_All (λ d. d < 256) c.args.hash (All-from_get_or (λ d. d < 256) c.args.hash 0 (λ i within. search rules)) in
    low_number c.args.hash _ (c.args.gone / 8) c.args.gone (c.from.result % (1 * 2 ^ (8 - c.args.gone % 8) % 65536)) below long c.requires refl
    (λ i. c.from.ensures i % short_power (8 - c.args.gone % 8) (omega arith) i)
    (ap (λ (xs : List ℕ). set xs (c.args.gone / 8) (c.from.result % (1 * 2 ^ (8 - c.args.gone % 8) % 65536))) c.without_first-low.ensures)
