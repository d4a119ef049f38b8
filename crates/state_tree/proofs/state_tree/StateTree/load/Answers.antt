use Rattle.state_tree.proofs.LoadSteps.{all_read, fault_through, own_fault, root_fault, tree_fault}
use Rattle.state_tree.proofs.state_tree.StateTree.load.Goals as goal

pub returns-in_err-links-clause-fault : goal.returns-in_err-links-clause-fault
returns-in_err-links-clause-fault g c =
    fault_through c.in_err-links.field-0.0 c.from_residual.result (root_fault _ c.args.root.now c.args.codes.now) c.in_err-links.ensures.fault c.from_residual.ensures.1

pub returns-in_err-tree-clause-fault : goal.returns-in_err-tree-clause-fault
returns-in_err-tree-clause-fault g c =
    fault_through c.in_err-tree.field-0.0 c.from_residual-in_err-tree.result (λ fault. tree_fault _ c.args.root.now c.args.codes.now c.in_ok-links.links fault c.in_ok-links.ensures.found) c.in_err-tree.ensures.fault
    c.from_residual-in_err-tree.ensures.1

pub returns-in_err-check_own_actors-clause-fault : goal.returns-in_err-check_own_actors-clause-fault
returns-in_err-check_own_actors-clause-fault g c =
    let there = c.in_ok-tree.ensures.found in
    fault_through c.in_err-check_own_actors.field-0.0 c.from_residual-in_err-check_own_actors.result
    (λ fault. own_fault _ c.args.root.now c.args.codes.now c.in_ok-links.links there.0 fault c.in_ok-links.ensures.found there.1)
    (c.in_err-check_own_actors.ensures.fault there.0 c.in_ok-links.links.info there.2) c.from_residual-in_err-check_own_actors.ensures.1

pub returns-clause-found : goal.returns-clause-found
returns-clause-found g c =
    let there = c.in_ok-tree.ensures.found in (
      there.0,
      c.in_ok-links.links.info,
      all_read _ c.args.root.now c.args.codes.now c.in_ok-links.links there.0 c.in_ok-links.ensures.found there.1 (c.in_ok-check_own_actors.ensures.found there.0 c.in_ok-links.links.info there.2),
      there.2,
    )
