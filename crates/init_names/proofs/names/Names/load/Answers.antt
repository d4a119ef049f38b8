use Rattle.std.proofs.Common.{refl}
use Rattle.std.proofs.lemmas.Result.{err_from_is_err_and}
use Rattle.hamt_map.specs.declared.state_fault.StateFault.{StateFault}
use Rattle.init_names.specs.Stands.{Stands}
use Rattle.init_names.proofs.Loading.{fault_as, no_names, state_found}
use Rattle.init_names.proofs.names.Names.load.Goals as goal

pub returns-in_err-tree-clause-fault : goal.returns-in_err-tree-clause-fault
returns-in_err-tree-clause-fault g c =
    let blocks = g.B.BlockSource.blocks c.args.base.now in
    let there = c.in_ok-parts.ensures.found in
    let p = err_from_is_err_and c.from_residual-in_err-tree.result c.from_residual-in_err-tree.ensures.1 in
    rw (p.1, p.2) (fault_as _ (λ (fault : StateFault). no_names blocks c.args.head.now there.0 _ fault there.1 there.2) c.in_err-tree.ensures.fault)

pub returns-clause-found : goal.returns-clause-found
unfolding Stands
returns-clause-found g c =
    let blocks = g.B.BlockSource.blocks c.args.base.now in
    let there = c.in_ok-parts.ensures.found in
    let names = c.in_ok-tree.ensures.found in (
      record { names = names.0; next = c.in_ok-parts.parts.next; network = c.in_ok-parts.parts.network },
      state_found blocks c.args.head.now there.0 (record { names = c.in_ok-parts.parts.names; next = c.in_ok-parts.parts.next; network = c.in_ok-parts.parts.network }) names.0 there.1 there.2 names.1,
      (names.3, refl, refl, record { names = names.2; next = c.number.ensures.range; length = c.in_ok-parts.ensures.text.0; network = c.in_ok-parts.ensures.text.1 }),
    )
