use Rattle.std.proofs.Common.{ap, subst, sym, ◌∙◌}
use Rattle.std.specs.FinMap.{insert}
use Rattle.dag_cbor.specs.declared.value.Value.{Value}
use Rattle.hamt_map.specs.Stands.{Stands}
use Rattle.init_names.specs.Names.{named}
use Rattle.init_names.proofs.NamedMaps.{named-insert}
use Rattle.init_names.proofs.StateParts.{plain_id}
use Rattle.init_names.proofs.names_tree.put_id.Goals as goal

pub set-requires : goal.set-requires
set-requires g c = record { plain = plain_id 119 c.args.id c.value_of.result c.value_of.ensures.small c.value_of.ensures.value }

pub returns-clause-after : goal.returns-clause-after
returns-clause-after g c = λ names stands.
    subst (Stands c.set.new.self (g.B.BlockSource.blocks c.args.base.now))
    (ap (λ (value : Value). insert (named names) c.args.name.now value) c.value_of.ensures.value ∙ sym (named-insert names c.args.name.now c.args.id))
    (c.in_ok-set.ensures.after (named names) stands)
