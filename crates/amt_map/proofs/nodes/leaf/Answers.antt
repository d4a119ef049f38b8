use Rattle.std.proofs.Common.{ℕ, List, ◌≡◌, [], map, refl, ◌∙◌, arith}
use Rattle.std.proofs.lemmas.List.{length-map}
use Rattle.std.proofs.lemmas.Result.{IfOk-weaker}
use Rattle.std.specs.List.{flat_map}
use Rattle.amt_map.specs.Node.{groups}
use Rattle.amt_map.specs.NodeText.{Spellings, node_text, text_at, values_of}
use Rattle.amt_map.proofs.SlotSteps.{bit_fits, few_values, leaf_is, slot_fits, slots_end, slots_more}
use Rattle.amt_map.proofs.Writing.{leaf_left, none_left}
use Rattle.amt_map.proofs.nodes.leaf.Goals as goal

pub put-requires-clause-bitmap : goal.put-requires-clause-bitmap
put-requires-clause-bitmap c =
    let at = c.loop-pair in
    bit_fits values_of 0 (map {B = ℕ × List ℕ} (λ p. (p.0, p.1.now)) c.args.pairs.now) _ _ at.values.bitmap at.values.count at.values.spellings.items (c.digit_at.result, _) at.invariant
    (leaf_left (λ p. (p.0, p.1.now)) c.requires.0 at.pair-index c.digit_at.result c.args.pairs.now _ c.requires.1 c.loop-pair-test.true c.digit_at.ensures.value)

pub put-requires-clause-count : goal.put-requires-clause-count
put-requires-clause-count c =
    let at = c.loop-pair in
    slot_fits values_of (groups 0 (map {B = ℕ × List ℕ} (λ p. (p.0, p.1.now)) c.args.pairs.now)) _ _ at.values.bitmap at.values.count at.values.spellings.items (c.digit_at.result, _) _ at.invariant
    (leaf_left (λ p. (p.0, p.1.now)) c.requires.0 at.pair-index c.digit_at.result c.args.pairs.now _ c.requires.1 c.loop-pair-test.true c.digit_at.ensures.value) refl
    (few_values c.requires.0 (map {B = ℕ × List ℕ} (λ p. (p.0, p.1.now)) c.args.pairs.now) c.requires.1)

pub loop-pair-preserved : goal.loop-pair-preserved
loop-pair-preserved c =
    let at = c.loop-pair in
    slots_more values_of (groups 0 (map {B = ℕ × List ℕ} (λ p. (p.0, p.1.now)) c.args.pairs.now)) _ _ at.values.bitmap at.values.count at.values.spellings.items
    c.put.new.self.bitmap c.put.new.self.count c.put.new.self.spellings.items (c.digit_at.result, _) _ at.invariant
    (leaf_left (λ p. (p.0, p.1.now)) c.requires.0 at.pair-index c.digit_at.result c.args.pairs.now _ c.requires.1 c.loop-pair-test.true c.digit_at.ensures.value) refl
    c.in_ok-put.ensures.bitmap c.in_ok-put.ensures.count c.in_ok-put.ensures.spellings

pub leaf-requires : goal.leaf-requires
leaf-requires c =
    let at = c.loop-pair in
    let ss : Spellings = map (λ p. (p.0, p.1.now)) c.args.pairs.now in
    let are = slots_end values_of (groups 0 ss) _ at.values.bitmap at.values.count at.values.spellings.items at.invariant
    (none_left 0 at.pair-index ss (omega (arith, c.loop-pair-test.false, length-map {B = ℕ × List ℕ} c.args.pairs.now (λ p. (p.0, p.1.now))))) in
    let few = few_values c.requires.0 ss c.requires.1 in
    omega (arith, are.count_is, few)

pub returns : goal.returns
returns c =
    let at = c.loop-pair in
    let ss : Spellings = map (λ p. (p.0, p.1.now)) c.args.pairs.now in
    let are = slots_end values_of (groups 0 ss) _ at.values.bitmap at.values.count at.values.spellings.items at.invariant
    (none_left 0 at.pair-index ss (omega (arith, c.loop-pair-test.false, length-map {B = ℕ × List ℕ} c.args.pairs.now (λ p. (p.0, p.1.now))))) in
    IfOk-weaker c.leaf.result (λ bytes. bytes.items ≡ node_text at.values.bitmap [] (flat_map values_of (groups 0 ss))) (λ bytes. bytes.items ≡ text_at 0 ss)
    (λ bytes is. is ∙ leaf_is ss at.values.bitmap at.values.count at.values.spellings.items are) (c.leaf.ensures (flat_map values_of (groups 0 ss)) are.count_is are.items_are)
