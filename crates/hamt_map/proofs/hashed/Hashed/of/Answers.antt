use Rattle.std.proofs.Common.{◌≡◌, ◌<◌, ◌-◌, ◌*◌, ◌+◌, ◌%◌, ◌^◌, length, ◌∙◌, arith, rules}
use Rattle.std.proofs.lemmas.List.Elements.{All-from_get_or, recursion_from_All}
use Rattle.std.specs.Int.Digits.{number_from_digits}
use Rattle.hamt_map.proofs.hashed.Hashed.of.Goals as goal

pub returns-clause-hash : goal.returns-clause-hash
returns-clause-hash c =
    let long : length c.low_bits-hash.result ≡ 32 = search rules in
    let width : 256 - (250 - 5 * c.args.below) ≡ 5 * c.args.below + 6 = let small = c.requires in omega (arith, small) in
    record {
      long = long;
      bytes = recursion_from_All (λ d. d < 256) c.low_bits-hash.result (All-from_get_or (λ d. d < 256) c.low_bits-hash.result 0 (λ i within. search rules));
      number = c.low_bits-hash.ensures ∙ (λ i. number_from_digits 256 (c.digest.ensures i) % 2 ^ width i);
    }
