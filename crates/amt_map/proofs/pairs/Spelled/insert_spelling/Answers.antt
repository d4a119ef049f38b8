use Rattle.std.proofs.Common.{ℕ, List, ◌∙◌, ap}
use Rattle.std.specs.FinMap.Entries.{put}
use Rattle.std.specs.Ordering.{nat_cmp}
use Rattle.amt_map.proofs.Held.{Holds-insert}
use Rattle.amt_map.proofs.pairs.Spelled.insert_spelling.Goals as goal

pub returns-clause-after : goal.returns-clause-after
returns-clause-after c = λ m value held plain same.
    Holds-insert c.args.self.now _ m c.args.index value held c.requires.index plain (c.in_ok-put.ensures.after ∙ ap (λ (t : List ℕ). put nat_cmp c.args.index t c.args.self.now) same)
