-- Equality of CIDs.
use Rattle.std.specs.Prelude.{Bool, nat_eq}
use Rattle.std.specs.Cmp.{IsEquivalence, nat_eq_equiv, on_equiv, and_equiv}
use Rattle.std.specs.Cmp.Lexicographic.{pointwise, nat_list_eq_equiv}
use Rattle.std.specs.Ordering.{on, eq_of_both}
use Rattle.fil_base.specs.CidParts.{CidParts}

-- each part is the same
abbrev pub same_parts : CidParts → CidParts → Bool
same_parts =
    eq_of_both (on (λ c. c.version) nat_eq) (eq_of_both (on (λ c. c.codec) nat_eq) (eq_of_both (on (λ c. c.hash) nat_eq) (on (λ c. c.digest) (pointwise nat_eq))))

pub parts_equiv : IsEquivalence same_parts
parts_equiv =
    and_equiv (on_equiv (λ c. c.version) nat_eq_equiv) (and_equiv (on_equiv (λ c. c.codec) nat_eq_equiv) (and_equiv (on_equiv (λ c. c.hash) nat_eq_equiv) (on_equiv (λ c. c.digest) nat_list_eq_equiv)))
