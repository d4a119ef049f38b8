use Rattle.std.proofs.Common.{◌≡◌, length, sym, subst, ap, ◌∙◌}
use Rattle.std.proofs.lemmas.List.{nil_from_length}
use Rattle.std.specs.Vec.Iter.{into_iter_items}
use Rattle.hamt_map.specs.Canonical.{child_place}
use Rattle.hamt_map.specs.Loading.{walk_child}
use Rattle.hamt_map.proofs.Putting.{PutSoFar, bucket_is_put, child_is_put, child_under, put_begin, put_end, put_more}
use Rattle.hamt_map.proofs.WalkSteps.{no_block, no_form, fault_below, judged_found, judged_fault, child_put, child_put_only, fault_as}
use Rattle.std.specs.Prelude.{drop}
use Rattle.hamt_map.proofs.loading.+walking.Goals as goal

-- ---- put_tree

pub put_tree-returns-in_default-clause-fault : goal.put_tree-returns-in_default-clause-fault
put_tree-returns-in_default-clause-fault g t c = fault_as _ _ _ (no_block _ c.args.below c.args.cid.now c.in_default.ensures) c.missing.ensures

pub put_tree-returns-in_default-2-clause-fault : goal.put_tree-returns-in_default-2-clause-fault
put_tree-returns-in_default-2-clause-fault g t c =
    fault_as _ _ _ (no_form _ c.args.below c.args.cid.now c.in-Some.block.now c.in-Some.ensures (rw (c.in_default-2.is, c.bytes.ensures.value) at c.in_ok-node.ensures)) c.no_node.ensures

pub put_tree-returns-in_err-places-clause-fault : goal.put_tree-returns-in_err-places-clause-fault
put_tree-returns-in_err-places-clause-fault g t c =
    let node = rw (c.in-Some-2.is, c.bytes.ensures.value) at c.in_ok-node.ensures in
    fault_below _ c.args.below c.args.cid.now c.in-Some.block.now node.0 c.in_err-places.field-0.0 c.from_residual-in_err-places.result (record { block = c.in-Some.ensures; pointers = node.1 })
    c.from_residual-in_err-places.ensures.1 (c.in_err-places.ensures.fault node.0 node.2.zip)

pub put_tree-returns-clause-found : goal.put_tree-returns-clause-found
put_tree-returns-clause-found g t c =
    let node = rw (c.in-Some-2.is, c.bytes.ensures.value) at c.in_ok-node.ensures in
    let start : c.len-start.result ≡ length c.args.leaves.now.items = c.len-start.ensures ∙ c.args.leaves.now.ok.0 in
    judged_found _ c.args.below c.args.cid.now c.in-Some.block.now c.in-Some-2.node node.0 c.args.leaves.now.items c.put_pointers.new.leaves.items c.judge.new.leaves.items c.len-start.result c.in_ok-places.places c.judge.result
    c.in-Some.ensures node.1 node.2 (c.in_ok-places.ensures.found node.0 node.2.zip) start
    (c.judge.ensures.found (g.B.BlockSource.blocks c.args.base.now))

pub put_tree-returns-clause-fault : goal.put_tree-returns-clause-fault
put_tree-returns-clause-fault g t c =
    let node = rw (c.in-Some-2.is, c.bytes.ensures.value) at c.in_ok-node.ensures in
    let start : c.len-start.result ≡ length c.args.leaves.now.items = c.len-start.ensures ∙ c.args.leaves.now.ok.0 in
    judged_fault _ c.args.below c.args.cid.now c.in-Some.block.now c.in-Some-2.node node.0 c.args.leaves.now.items c.put_pointers.new.leaves.items c.len-start.result c.in_ok-places.places c.judge.result
    c.in-Some.ensures node.1 node.2 (c.in_ok-places.ensures.found node.0 node.2.zip) start
    (c.judge.ensures.fault (g.B.BlockSource.blocks c.args.base.now))

-- ---- put_pointers

pub put_pointers-loop-pointer-init : goal.put_pointers-loop-pointer-init
put_pointers-loop-pointer-init g t c = λ those stand.
    put_begin _ _ c.args.below those _ c.args.pointers c.args.leaves.now.items (c.into_iter-pointer-iterator.ensures.into_iter_gives.0 ∙ c.into_vec-pointer-items.ensures) stand

pub put_pointers-loop-pointer-preserved : goal.put_pointers-loop-pointer-preserved
put_pointers-loop-pointer-preserved g t c = λ those stand.
    subst (PutSoFar (g.B.BlockSource.blocks c.args.base.now) (walk_child (g.B.BlockSource.blocks c.args.base.now) c.args.below) c.args.below those (into_iter_items c.next.new.self) c.args.leaves.now.items c.put_pointer.new.leaves.items) (sym c.with_place-places.ensures)
    (put_more _ _ c.args.below those _ c.in-Some.pointer _ c.args.leaves.now.items c.loop-pointer.leaves.items c.put_pointer.new.leaves.items c.loop-pointer.places c.in_ok-place.place c.in-Some.ensures.steps.0
    (c.loop-pointer.invariant those stand) c.in_ok-place.ensures.found)

pub put_pointers-returns-clause-found : goal.put_pointers-returns-clause-found
put_pointers-returns-clause-found g t c = λ those stand.
    put_end _ _ c.args.below those _ c.args.leaves.now.items c.loop-pointer.leaves.items c.loop-pointer.places (nil_from_length _ (sym c.loop-pointer.pointer-iterator.rest.ok.0 ∙ c.in-None.ensures.steps.0)) (c.loop-pointer.invariant those stand)

-- ---- put_pointer and put_child

pub put_pointer-returns-in_ok-put_bucket-in-Bucket-clause-found : goal.put_pointer-returns-in_ok-put_bucket-in-Bucket-clause-found
put_pointer-returns-in_ok-put_bucket-in-Bucket-clause-found g t c = λ that stand.
    bucket_is_put _ _ c.args.below c.args.pointer c.in-Bucket.bucket that c.args.leaves.now.items c.put_bucket.new.leaves.items c.in_ok-put_bucket-in-Bucket.field-0 c.in-Bucket.is stand c.in_ok-put_bucket-in-Bucket.ensures.put
    c.in_ok-put_bucket-in-Bucket.ensures.place

pub put_child-returns-then-by_form-clause-found : goal.put_child-returns-then-by_form-clause-found
put_child-returns-then-by_form-clause-found g t c =
    let start : c.len-start.result ≡ length c.args.leaves.now.items = c.len-start.ensures ∙ c.args.leaves.now.ok.0 in
    child_put _ c.args.below c.args.cid.now c.args.leaves.now.items c.put_tree.new.leaves.items c.len-start.result c.child_place.result _ c.if-below-eq0.false c.in_ok-by_form.ensures.found c.if-by_form.true start
    (c.child_place.ensures ∙ ap (λ xs. child_place c.args.below (drop c.len-start.result xs)) c.deref.ensures.value)

pub put_child-returns-else-by_form-clause-found : goal.put_child-returns-else-by_form-clause-found
put_child-returns-else-by_form-clause-found g t c =
    child_put_only _ c.args.below c.args.cid.now c.args.leaves.now.items c.put_tree.new.leaves.items _ c.if-below-eq0.false c.in_ok-by_form.ensures.found
