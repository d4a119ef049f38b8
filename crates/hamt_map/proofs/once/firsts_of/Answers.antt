use Rattle.std.proofs.Common.{◌≡◌, Bor, List, ℕ, ap, length, map, take, ◌∙◌, arith}
use Rattle.std.proofs.lemmas.List.{take_all}
use Rattle.std.specs.FinMap.{empty, insert}
use Rattle.std.specs.FinMap.Entries.{put}
use Rattle.hamt_map.specs.Pairs.{key_cmp}
use Rattle.hamt_map.proofs.Held.{Holds-empty, Holds-insert}
use Rattle.hamt_map.proofs.Merging.{taken_begin, taken_end, taken_next}
use Rattle.hamt_map.proofs.Spellings.{shown-insert_entry}
use Rattle.hamt_map.proofs.once.firsts_of.Goals as goal

pub loop-left-init : goal.loop-left-init
loop-left-init c =
    let none = ap (map {B = List ℕ × List ℕ} (λ e. (e.0.now, e.1.now))) c.new-firsts.ensures.empty in
    record {
      within = omega arith;
      held = (empty, Holds-empty _ none);
      taken = λ all same fit. taken_begin all _ _ (take_all (length c.args.leaves.now) c.args.leaves.now (omega arith) ∙ same) fit (Holds-empty _ none);
    }

pub loop-left-preserved : goal.loop-left-preserved
loop-left-preserved c =
    let at = c.loop-left in
    let before = map {B = List ℕ × List ℕ} (λ e. (e.0.now, e.1.now)) at.firsts.entries in
    let shown = ap (map {B = List ℕ × List ℕ} (λ e. (e.0.now, e.1.now))) c.in_ok-insert.ensures.entries ∙ shown-insert_entry (λ (k : Bor (List ℕ)). k.now) (λ (v : Bor (List ℕ)). v.now) at.firsts.entries c.key.result c.spelling.result in
    let is = c.spelling.ensures.is in
    let held = at.invariant.held in
    record {
      within = let within = at.invariant.within in omega (arith, within);
      held = (
        insert held.0 c.key.result.now is.value,
        Holds-insert before _ held.0 c.key.result.now is.value held.1 is.plain (shown ∙ ap (λ (t : List ℕ). put key_cmp c.key.result.now t before) is.same),
      );
      taken = λ all same fit. taken_next all c.args.leaves.now before _ at.left c.index-leaves-left.result (omega (arith, c.loop-left-test.true)) at.invariant.within c.index-leaves-left.is (at.invariant.taken all same fit)
          (shown ∙ (λ i. put key_cmp (c.key.ensures i) (c.spelling.ensures.value i) before));
    }

pub returns-clause-held : goal.returns-clause-held
returns-clause-held c = c.loop-left.invariant.held

pub returns-clause-pairs : goal.returns-clause-pairs
returns-clause-pairs c = λ all same fit.
    let gone : c.loop-left.left ≡ 0 = omega (arith, c.loop-left-test.false) in
    taken_end all _ _ (ap (λ (k : ℕ). take k c.args.leaves.now) gone) (c.loop-left.invariant.taken all same fit)
