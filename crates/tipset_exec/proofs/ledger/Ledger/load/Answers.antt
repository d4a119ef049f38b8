use Rattle.std.proofs.Common.{refl, sym, ap, None, Some, ◌∙◌}
use Rattle.std.specs.FinMap.{get}
use Rattle.hamt_map.specs.declared.state_fault.StateFault.TheVariants.{Actor as NoActor}
use Rattle.state_model.specs.StateAt.{opened}
use Rattle.state_tree.proofs.LoadSteps.{fault_through}
use Rattle.tipset_exec.proofs.StateSteps.{no_actors, no_names, with_names}
use Rattle.tipset_exec.proofs.ledger.Ledger.load.Goals as goal

pub returns-in_err-tree-clause-fault : goal.returns-in_err-tree-clause-fault
returns-in_err-tree-clause-fault c =
    fault_through c.in_err-tree.field-0.0 c.from_residual.result (λ fault. no_actors c.args.base.now c.args.root.now c.args.codes.now fault) c.in_err-tree.ensures.fault c.from_residual.ensures.1

pub returns-in_default-clause-fault : goal.returns-in_default-clause-fault
returns-in_default-clause-fault c =
    let there = c.in_ok-tree.ensures.found in
    let read = c.in_ok-init.ensures there.0 there.1 there.3 ∙ ap (get there.0) c.id_of.ensures in
    no_names c.args.base.now c.args.root.now c.args.codes.now there.0 there.1 None (NoActor 1) there.2 (sym c.in_default.is ∙ read) refl

pub returns-in_err-names-clause-fault : goal.returns-in_err-names-clause-fault
returns-in_err-names-clause-fault c =
    let there = c.in_ok-tree.ensures.found in
    let read = c.in_ok-init.ensures there.0 there.1 there.3 ∙ ap (get there.0) c.id_of.ensures in
    fault_through c.in_err-names.field-0.0 c.from_residual-in_err-names.result
    (λ fault. no_names c.args.base.now c.args.root.now c.args.codes.now there.0 there.1 (Some c.in-Some.init) fault there.2 (sym c.in-Some.is ∙ read)) c.in_err-names.ensures.fault
    c.from_residual-in_err-names.ensures.1

pub returns-clause-found : goal.returns-clause-found
returns-clause-found c =
    let there = c.in_ok-tree.ensures.found in
    let names = c.in_ok-names.ensures.found in
    let read = c.in_ok-init.ensures there.0 there.1 there.3 ∙ ap (get there.0) c.id_of.ensures in (
      opened (there.0, there.1) names.0,
      with_names c.args.base.now c.args.root.now c.args.codes.now there.0 there.1 (Some c.in-Some.init) names.0 there.2 (sym c.in-Some.is ∙ read) names.1,
      record { parts = (there.3, names.2); minted = c.zero.ensures; burned = c.zero-2.ensures; made = refl },
    )
