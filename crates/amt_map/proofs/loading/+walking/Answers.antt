use Rattle.std.proofs.Common.{sym, ap, subst, ◌∙◌, OnOk, IfErr, List, ℕ, Result, Ok, arith}
use Rattle.std.proofs.lemmas.List.{nil_from_length, length-map}
use Rattle.tree_blocks.specs.declared.fault.TreeFault.{TreeFault}
use Rattle.amt_map.specs.Loading.{ArePut, IsFaultOf}
use Rattle.amt_map.specs.OneNode.{IsOneNode}
use Rattle.amt_map.specs.Pairs.{Pairs}
use Rattle.amt_map.specs.Reading.{shown}
use Rattle.amt_map.specs.ValueBytes.{the_value}
use Rattle.amt_map.proofs.CanonicalRoot.{full_bytes}
use Rattle.amt_map.proofs.FullNode.{full_above, full_at_zero, full_begin, full_end, full_inner, full_more}
use Rattle.amt_map.proofs.Gathering.{children_begin, children_more, children_end, children_fault_of}
use Rattle.amt_map.proofs.OneValue.{the_spelled}
use Rattle.amt_map.proofs.ReadOneNode.{read_one_node, one_node_spelled}
use Rattle.amt_map.proofs.WalkSteps.{at_zero, above_zero, behind_old, child_found, child_fault}
use Rattle.amt_map.proofs.loading.+walking.Goals as goal

-- ---- put_child

pub put_child-judge-requires-clause-node : goal.put_child-judge-requires-clause-node
put_child-judge-requires-clause-node g t c =
    let put = c.in_ok-full.ensures.found in
    let new = ap shown c.deref.ensures.value ∙ put.same in
    let slice = behind_old (shown c.args.pairs.now.items) c.len-before.result c.deref.result.now put.pairs (c.len-before.ensures ∙ c.args.pairs.now.ok.0 ∙ sym (length-map c.args.pairs.now.items (λ p. (p.0, p.1.items)))) new in (
      c.requires.place.0,
      subst (λ (ps : List (ℕ × List ℕ)). IsOneNode c.args.height c.requires.place.0 ps) (sym slice)
          (one_node_spelled c.args.height c.requires.place.0 put.pairs (read_one_node _ c.args.height c.args.cid.now c.requires.place.0 c.args.from (the_value c.bytes.result.now) put.pairs c.requires.place.1 put.walk)),
    )

pub put_child-returns-clause-found : goal.put_child-returns-clause-found
put_child-returns-clause-found g t c =
    let put = c.in_ok-full.ensures.found in
    let new = ap shown c.deref.ensures.value ∙ put.same in
    let slice = behind_old (shown c.args.pairs.now.items) c.len-before.result c.deref.result.now put.pairs (c.len-before.ensures ∙ c.args.pairs.now.ok.0 ∙ sym (length-map c.args.pairs.now.items (λ p. (p.0, p.1.items)))) new in
    child_found _ c.args.height c.args.from c.args.cid.now c.in_ok-block.block.now (the_value c.bytes.result.now) _ _ c.judge.result
    (c.in_ok-block.ensures.found ∙ ap (λ (bs : List ℕ). Ok (c.in_ok-block.block.now, the_value bs)) (sym c.bytes.ensures.value)) put
    (c.judge.ensures.found put.pairs slice
    (full_bytes c.args.height c.in_ok-block.block.now.bytes c.bytes.result.now c.in_ok-full.full _ put.pairs c.in_ok-block.ensures.value c.bytes.ensures.value c.in_ok-full.ensures.node put.walk))

pub put_child-returns-clause-fault : goal.put_child-returns-clause-fault
put_child-returns-clause-fault g t c =
    let put = c.in_ok-full.ensures.found in
    let new = ap shown c.deref.ensures.value ∙ put.same in
    let slice = behind_old (shown c.args.pairs.now.items) c.len-before.result c.deref.result.now put.pairs (c.len-before.ensures ∙ c.args.pairs.now.ok.0 ∙ sym (length-map c.args.pairs.now.items (λ p. (p.0, p.1.items)))) new in
    child_fault _ c.args.height c.args.from c.args.cid.now c.in_ok-block.block.now (the_value c.bytes.result.now) _ _ _ c.judge.result
    (c.in_ok-block.ensures.found ∙ ap (λ (bs : List ℕ). Ok (c.in_ok-block.block.now, the_value bs)) (sym c.bytes.ensures.value)) put slice c.judge.ensures.fault

-- ---- put_children

pub put_children-loop-digit-init : goal.put_children-loop-digit-init
put_children-loop-digit-init g t c = record {
  children = children_begin _ _ c.args.from c.args.links.items _ (shown c.args.pairs.now.items) c.into_iter-digit-iterator.ensures.into_iter_gives.0 c.requires.digits;
  full = full_begin _ _ c.args.from c.args.links.items _ _ c.into_iter-digit-iterator.ensures.into_iter_gives.0;
}

pub put_children-returns-in_err-put_child-clause-fault : goal.put_children-returns-in_err-put_child-clause-fault
put_children-returns-in_err-put_child-clause-fault g t c =
    children_fault_of _ _ c.args.from c.args.links.items _ _ (c.in-Some.digit, c.in-Some.cid) c.first_index-first.result _ _ c.in_err-put_child.field-0.0 c.from_residual.result c.in-Some.ensures.steps.0 c.first_index-first.ensures.value
    c.loop-digit.invariant.children c.from_residual.ensures.1 c.in_err-put_child.ensures.fault

pub put_children-loop-digit-preserved : goal.put_children-loop-digit-preserved
put_children-loop-digit-preserved g t c =
    let count = c.len-before.ensures ∙ c.loop-digit.pairs.ok.0 ∙ sym (length-map c.loop-digit.pairs.items (λ p. (p.0, p.1.items))) in
    let after = c.len.ensures ∙ c.put_child.new.pairs.ok.0 ∙ sym (length-map c.put_child.new.pairs.items (λ p. (p.0, p.1.items))) in
    record {
      children = children_more _ _ c.args.from c.args.links.items _ _ (c.in-Some.digit, c.in-Some.cid) c.first_index-first.result _ (shown c.loop-digit.pairs.items) (shown c.put_child.new.pairs.items) c.in-Some.ensures.steps.0 c.first_index-first.ensures.value
          c.in_ok-put_child.ensures.found c.loop-digit.invariant.children;
      full = full_more _ _ c.args.from c.args.links.items _ _ (c.in-Some.digit, c.in-Some.cid) c.first_index-first.result (shown c.loop-digit.pairs.items) (shown c.put_child.new.pairs.items) c.loop-digit.full _ _ _
          c.in-Some.ensures.steps.0 c.first_index-first.ensures.value c.in_ok-put_child.ensures.found count after c.is_still_full-full.ensures c.loop-digit.invariant.full;
    }

pub put_children-returns-clause-found : goal.put_children-returns-clause-found
put_children-returns-clause-found g t c = children_end _ _ c.args.from c.args.links.items _ _ _ (nil_from_length _ (sym c.loop-digit.digit-iterator.rest.ok.0 ∙ c.in-None.ensures.steps.0)) c.loop-digit.invariant.children

pub put_children-returns-clause-full : goal.put_children-returns-clause-full
put_children-returns-clause-full g t c = full_end _ _ c.args.from c.args.links.items _ c.loop-digit.full (nil_from_length _ (sym c.loop-digit.digit-iterator.rest.ok.0 ∙ c.in-None.ensures.steps.0)) c.loop-digit.invariant.full

-- ---- put_inner

pub put_inner-returns-clause-node : goal.put_inner-returns-clause-node
put_inner-returns-clause-node g t c =
    full_inner _ c.args.height c.args.node.now (the_value c.args.node.now) c.args.cid.now c.requires.place.0 c.args.from c.in-Some.links.items c.put_children.result c.requires.place.1 (λ i. omega (arith, c.type_inv.node i))
    (the_spelled c.args.node.now c.requires.value) (rw c.in-Some.is at c.in_ok-links.ensures.found) c.put_children.ensures.full

-- ---- put_pairs

pub put_pairs-returns-then-height-eq0-clause-found : goal.put_pairs-returns-then-height-eq0-clause-found
put_pairs-returns-then-height-eq0-clause-found g t c =
    subst (λ (w : Result Pairs TreeFault). OnOk c.put_leaf.result (ArePut w (shown c.args.pairs.now.items) (shown c.put_leaf.new.pairs.items))) (at_zero _ c.args.height c.args.cid.now c.args.from (the_value c.args.node.now) c.if-height-eq0.true) c.put_leaf.ensures.found

pub put_pairs-returns-then-height-eq0-clause-node : goal.put_pairs-returns-then-height-eq0-clause-node
put_pairs-returns-then-height-eq0-clause-node g t c = full_at_zero _ c.args.height c.args.cid.now c.args.from (the_value c.args.node.now) c.put_leaf.result c.if-height-eq0.true c.put_leaf.ensures.node

pub put_pairs-returns-then-height-eq0-clause-fault : goal.put_pairs-returns-then-height-eq0-clause-fault
put_pairs-returns-then-height-eq0-clause-fault g t c =
    subst (λ (w : Result Pairs TreeFault). IfErr c.put_leaf.result (IsFaultOf w)) (at_zero _ c.args.height c.args.cid.now c.args.from (the_value c.args.node.now) c.if-height-eq0.true) c.put_leaf.ensures.fault

pub put_pairs-returns-else-height-eq0-clause-found : goal.put_pairs-returns-else-height-eq0-clause-found
put_pairs-returns-else-height-eq0-clause-found g t c =
    subst (λ (w : Result Pairs TreeFault). OnOk c.put_inner.result (ArePut w (shown c.args.pairs.now.items) (shown c.put_inner.new.pairs.items))) (above_zero _ c.args.height c.args.cid.now c.args.from (the_value c.args.node.now) c.if-height-eq0.false)
    c.put_inner.ensures.found

pub put_pairs-returns-else-height-eq0-clause-node : goal.put_pairs-returns-else-height-eq0-clause-node
put_pairs-returns-else-height-eq0-clause-node g t c = full_above _ c.args.height c.args.cid.now c.args.from (the_value c.args.node.now) c.put_inner.result c.if-height-eq0.false c.put_inner.ensures.node

pub put_pairs-returns-else-height-eq0-clause-fault : goal.put_pairs-returns-else-height-eq0-clause-fault
put_pairs-returns-else-height-eq0-clause-fault g t c =
    subst (λ (w : Result Pairs TreeFault). IfErr c.put_inner.result (IsFaultOf w)) (above_zero _ c.args.height c.args.cid.now c.args.from (the_value c.args.node.now) c.if-height-eq0.false) c.put_inner.ensures.fault
