use Rattle.std.proofs.Common.{◌≡◌, ℕ, ap, length, take, ◌∙◌, arith}
use Rattle.std.proofs.lemmas.List.{take_all}
use Rattle.std.specs.FinMap.Entries.{put}
use Rattle.hamt_map.specs.Pairs.{key_cmp}
use Rattle.hamt_map.proofs.Merging.{taken_begin, taken_end, taken_next}
use Rattle.hamt_map.proofs.pairs.Spelled.of_leaves.Goals as goal

pub loop-left-init : goal.loop-left-init
loop-left-init c = record {
  within = omega arith;
  taken = λ all same fit. taken_begin all _ _ (take_all (length c.args.leaves.now) c.args.leaves.now (omega arith) ∙ same) fit c.empty-pairs.ensures;
}

pub loop-left-preserved : goal.loop-left-preserved
loop-left-preserved c =
    let at = c.loop-left in
    record {
      within = let within = at.invariant.within in omega (arith, within);
      taken = λ all same fit. taken_next all c.args.leaves.now at.pairs c.put.new.self at.left c.index-leaves-left.result (omega (arith, c.loop-left-test.true)) at.invariant.within c.index-leaves-left.is (at.invariant.taken all same fit)
          (c.in_ok-put.ensures.after ∙ (λ i. put key_cmp ((c.in_ok-key.ensures.items ∙ c.key.ensures) i) ((c.in_ok-spelling.ensures.items ∙ c.spelling.ensures.value) i) at.pairs));
    }

pub loop-left-preserved-in_ok-put : goal.loop-left-preserved-in_ok-put
loop-left-preserved-in_ok-put c =
    let at = c.loop-left in
    record {
      within = let within = at.invariant.within in omega (arith, within);
      taken = λ all same fit. taken_next all c.args.leaves.now at.pairs c.put.new.self at.left c.index-leaves-left.result (omega (arith, c.loop-left-test.true)) at.invariant.within c.index-leaves-left.is (at.invariant.taken all same fit)
          (c.in_ok-put.ensures.after ∙ (λ i. put key_cmp ((c.in_ok-key.ensures.items ∙ c.key.ensures) i) ((c.in_ok-spelling.ensures.items ∙ c.spelling.ensures.value) i) at.pairs));
    }

pub returns : goal.returns
returns c = λ all same fit.
    let gone : c.loop-left.left ≡ 0 = omega (arith, c.loop-left-test.false) in
    taken_end all _ _ (ap (λ (k : ℕ). take k c.args.leaves.now) gone) (c.loop-left.invariant.taken all same fit)
