use Rattle.std.proofs.Common.{ap, ◌∙◌, ℕ}
use Rattle.std.specs.FinMap.{entries}
use Rattle.std.specs.List.{list_all}
use Rattle.hamt_map.specs.Pairs.{Pairs}
use Rattle.init_names.specs.Names.{named}
use Rattle.init_names.specs.Reading.{id_in, is_below}
use Rattle.init_names.specs.Stands.{Stands}
use Rattle.init_names.proofs.IdValues.{below_named}
use Rattle.init_names.proofs.names.Names.below.Goals as goal

pub returns : goal.returns
unfolding Stands
returns g c = λ s stands.
    c.all_below.ensures ∙ ap (λ (pairs : Pairs). list_all (λ p. is_below c.args.self.now.next (id_in p.1)) pairs) (c.as_slice.ensures ∙ c.in_ok-pairs.ensures (named s.names) stands.0)
    ∙ ap (λ (next : ℕ). list_all (λ p. is_below next (id_in p.1)) (entries (named s.names))) stands.1
    ∙ below_named s.next s.names stands.3.names
