use Rattle.std.proofs.Common.{Some, None, sym, ◌∙◌}
use Rattle.init_names.specs.Names.{named}
use Rattle.init_names.proofs.IdValues.{id_found}
use Rattle.init_names.proofs.names_tree.id_named.Goals as goal

pub returns : goal.returns
returns g c = λ names all stands. c.id_of.ensures ∙ id_found names c.args.name.now (Some c.in-Some.value) all (sym c.in-Some.is ∙ c.in_ok-value.ensures (named names) stands)

pub returns-in_default : goal.returns-in_default
returns-in_default g c = λ names all stands. id_found names c.args.name.now None all (sym c.in_default.is ∙ c.in_ok-value.ensures (named names) stands)
