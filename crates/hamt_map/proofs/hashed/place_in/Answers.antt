use Rattle.std.proofs.Common.{◌+◌, ◌*◌, ◌-◌, ◌/◌, ◌%◌, ◌^◌, ◌<◌, ◌∙◌, arith}
use Rattle.std.proofs.lemmas.List.Elements.{All-from_get_or, recursion_from_All}
use Rattle.hamt_map.proofs.Places.{five_bits}
use Rattle.hamt_map.proofs.hashed.place_in.Goals as goal

pub returns : goal.returns
returns c =
    let below = recursion_from_All (λ d. d < 256) c.args.hash.now (All-from_get_or (λ d. d < 256) c.args.hash.now 0 (λ i within. c.fits-hash i)) in
    (λ i. (c.from.ensures i * 256 + c.from-2.ensures i) / 2 ^ (11 + 8 * c.min-at.result - 5 * (c.args.level - 1)) % 32)
    ∙ five_bits c.args.hash.now c.args.level c.min-at.result below c.told-hash c.requires.first c.requires.last (omega (arith, c.min-at.ensures)) (omega (arith, c.min-at.ensures)) (omega (arith, c.min-at.ensures))
