use Rattle.std.proofs.Common.{◌∙◌, ap}
use Rattle.std.specs.FinMap.{remove}
use Rattle.std.specs.Map.{remove_entry}
use Rattle.std.specs.Ordering.{is_eq, nat_cmp}
use Rattle.amt_map.proofs.Held.{Holds-remove}
use Rattle.amt_map.proofs.Spellings.{view, view-remove_entry}
use Rattle.amt_map.proofs.pairs.Spelled.remove.Goals as goal

pub invariant_of-self : goal.invariant_of-self
invariant_of-self c =
    let m = c.self.invariant.0 in
    (remove m c.args.index, Holds-remove (view c.self.inside.inner.entries) _ m c.args.index c.self.invariant.1 (ap view c.remove.ensures.entries ∙ view-remove_entry c.args.index c.self.inside.inner.entries))

pub returns : goal.returns
returns c = λ m held. Holds-remove c.args.self.now _ m c.args.index held (
    ap view c.remove.ensures.entries ∙ view-remove_entry c.args.index c.self.inside.inner.entries ∙ ap (remove_entry (λ a. is_eq (nat_cmp c.args.index a))) c.self.view_is)
