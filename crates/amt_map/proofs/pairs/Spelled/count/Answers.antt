use Rattle.std.proofs.Common.{ℕ, List, subst, sym, ◌∙◌}
use Rattle.std.proofs.lemmas.List.{length-map}
use Rattle.amt_map.specs.Holds.{Holds}
use Rattle.amt_map.proofs.Held.{length-Holds}
use Rattle.amt_map.proofs.Spellings.{view}
use Rattle.amt_map.proofs.pairs.Spelled.count.Goals as goal

pub returns-clause-map : goal.returns-clause-map
returns-clause-map c =
    let m = c.self.invariant.0 in
    let entries = c.self.inside.inner.entries in (
      m,
      subst (λ (pairs : List (ℕ × List ℕ)). Holds pairs m) c.self.view_is c.self.invariant.1,
      length-Holds (view entries) m c.len.result c.self.invariant.1 (c.len.ensures.len ∙ sym (length-map {B = ℕ × List ℕ} entries (λ e. (e.0, e.1.items)))),
    )
