use Rattle.std.proofs.Common.{◌≡◌, ℕ, ◌++◌, ◌-◌, ap, map, subst, sym, ◌∙◌, arith}
use Rattle.std.proofs.lemmas.Result.{on_ok_weaker}
use Rattle.std.specs.FinMap.{entries}
use Rattle.dag_cbor.specs.Spelling.{spelled}
use Rattle.hamt_map.specs.Groups.{nodes_of, pointer_to}
use Rattle.hamt_map.specs.HashOrder.{AreLent}
use Rattle.hamt_map.specs.Lent.{lent_of}
use Rattle.hamt_map.specs.Pairs.{Map, Pairs}
use Rattle.hamt_map.proofs.rebuilding.put_bucket_over.Goals as goal

pub returns-then-covers-clause-text : goal.returns-then-covers-clause-text
returns-then-covers-clause-text c = λ ps old are fit sorted is.
    let same = c.covers.ensures (c.args.below - 1) ps old are fit is c.if-covers.true in
    on_ok_weaker c.put_pointer.result (λ now. now ∙ ap (λ (m : Map). c.args.out.now.items ++ spelled (pointer_to c.args.below (entries m))) (sym same)) (c.put_pointer.ensures.text ps are)

pub returns-then-covers-clause-under : goal.returns-then-covers-clause-under
returns-then-covers-clause-under c = λ ps old are fit sorted is.
    let same = c.covers.ensures (c.args.below - 1) ps old are fit is c.if-covers.true in
    on_ok_weaker c.put_pointer.result (λ now. now ∙ ap (λ (m : Map). c.args.nodes.now.items ++ nodes_of c.args.below (entries m)) (sym same)) (c.put_pointer.ensures.under ps are)

pub returns-clause-text : goal.returns-clause-text
returns-clause-text c = λ ps old are fit sorted is.
    let lent = c.in_ok-both.ensures (c.args.below - 1) ps old are fit sorted is in
    let level : c.saturating_sub.result ≡ c.args.below - 1 = omega (arith, c.saturating_sub.ensures) in
    on_ok_weaker c.put_pointer-2.result (λ now. now ∙ ap (λ (qs : Pairs). c.args.out.now.items ++ spelled (pointer_to c.args.below qs)) lent.same)
    (c.put_pointer-2.ensures.text lent.pairs (subst (λ es. AreLent (c.args.below - 1) (map lent_of es) lent.pairs) (sym c.as_slice.ensures.value) (subst (λ (k : ℕ). AreLent k (map lent_of c.in_ok-both.both.items) lent.pairs) level lent.are)))

pub returns-clause-under : goal.returns-clause-under
returns-clause-under c = λ ps old are fit sorted is.
    let lent = c.in_ok-both.ensures (c.args.below - 1) ps old are fit sorted is in
    let level : c.saturating_sub.result ≡ c.args.below - 1 = omega (arith, c.saturating_sub.ensures) in
    on_ok_weaker c.put_pointer-2.result (λ now. now ∙ ap (λ (qs : Pairs). c.args.nodes.now.items ++ nodes_of c.args.below qs) lent.same)
    (c.put_pointer-2.ensures.under lent.pairs (subst (λ es. AreLent (c.args.below - 1) (map lent_of es) lent.pairs) (sym c.as_slice.ensures.value) (subst (λ (k : ℕ). AreLent k (map lent_of c.in_ok-both.both.items) lent.pairs) level lent.are)))
