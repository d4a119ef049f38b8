use Rattle.std.proofs.Common.{List, [], ℕ, ap, subst, refl, ◌∙◌}
use Rattle.dag_cbor.specs.Plain.{IsText}
use Rattle.fil_address.specs.declared.address.Address.{Address}
use Rattle.hamt_map.specs.Stands as hamt
use Rattle.init_names.specs.Names.{AreNames, made_state, named, names_of}
use Rattle.init_names.specs.Stands.{Stands}
use Rattle.init_names.proofs.MadeNames.{made_stands}
use Rattle.init_names.proofs.names.init_blocks.Goals as goal
use Rattle.init_names.proofs.names.init_blocks.Goals.{After-drop-names-3}

stands : (c : After-drop-names-3) → Stands (record { alloc = c.args.alloc; tree = c.in_ok-tree.tree; next = c.args.next; network = c.of-network.result }) [] (made_state c.args.names.now c.args.next c.args.network.now)
stands c =
    let names : List (Address × ℕ) = c.args.names.now in
    let all = ap (λ (ns : List (Address × ℕ)). names_of ns) c.as_slice.ensures in
    made_stands _ [] (made_state names c.args.next c.args.network.now) (subst (λ ns. hamt.Stands c.in_ok-tree.tree [] (named ns)) all c.in_ok-tree.ensures.tree) (subst AreNames all c.in_ok-tree.ensures.names)
    refl c.number.ensures.range (c.of-network.ensures.value ∙ c.in_ok-copy_of.ensures) (subst IsText c.in_ok-copy_of.ensures c.of-network.ensures.text)

pub returns-clause-head : goal.returns-clause-head
returns-clause-head c = c.flush.ensures.head (made_state c.args.names.now c.args.next c.args.network.now) (stands c)

pub returns-clause-blocks : goal.returns-clause-blocks
returns-clause-blocks c = c.flush.ensures.nodes (made_state c.args.names.now c.args.next c.args.network.now) (stands c)
