use Rattle.std.proofs.Common.{◌≡◌, ℕ, ◌<◌, get_or, map, take}
use Rattle.fil_base.specs.Base32.{IsLetter, value_of}
use Rattle.fil_base.proofs.base32.values_of.Given as goal

abbrev pub invariant-loop-i : goal.invariant-loop-i
invariant-loop-i l = record {
  values : l.values.items ≡ map value_of (take l.i l.text);
  letters : (k : ℕ) → k < l.i → IsLetter (get_or l.text k 0);
}
