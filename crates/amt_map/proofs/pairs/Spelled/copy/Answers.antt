use Rattle.std.proofs.Common.{ℕ, List, ◌≡◌, subst, sym, ◌∙◌}
use Rattle.std.proofs.lemmas.List.Elements.{same_from_all_zip}
use Rattle.amt_map.specs.Holds.{Holds}
use Rattle.amt_map.specs.Pairs.{Map}
use Rattle.amt_map.proofs.Spellings.{view, view-clone}
use Rattle.amt_map.proofs.pairs.Spelled.copy.Goals as goal

same : (c : goal.In_ok-inner) → view c.in_ok-inner.inner.entries ≡ view c.self.inside.inner.entries
same c = view-clone _ (λ a b e. e) _ (λ v w zip. same_from_all_zip _ v.items w.items zip.0 (λ x y e. e)) c.self.inside.inner.entries c.in_ok-inner.inner.entries c.in_ok-inner.ensures.cases

pub invariant_of-result : goal.invariant_of-result
invariant_of-result c = subst (λ (pairs : List (ℕ × List ℕ)). (m : Map) × Holds pairs m) (sym (same c)) c.self.invariant

pub returns : goal.returns
returns c = same c ∙ c.self.view_is
