use Rattle.std.proofs.Common.{◌≡◌, ◌-◌, ◌<◌, ℕ, List, Bor, Option, ap, sym, subst, ◌∙◌, arith}
use Rattle.std.specs.Option.{option_map}
use Rattle.std.specs.Prelude.{IfOk}
use Rattle.cid_core.specs.BlockParts.{BlockParts}
use Rattle.dag_cbor.specs.Spelling.{spelled}
use Rattle.dag_cbor.specs.declared.value.Value.{Value}
use Rattle.hamt_map.specs.Node.{node, node_block}
use Rattle.hamt_map.specs.Pairs.{at_place}
use Rattle.hamt_map.proofs.AheadSteps.{is_cid}
use Rattle.hamt_map.proofs.FoundUnder.{block_is, bucket_is, found_at, group_fit, group_held, no_pair, node_is_there, place_is, pointer_is}
use Rattle.hamt_map.proofs.finding.+finding.Goals as goal

-- ---- find_under

pub find_under-returns-in-Some-Some : goal.find_under-returns-in-Some-Some
find_under-returns-in-Some-Some g t c = λ ps is_hash is_cid held fit.
    let held_are = g.B.BlockSource.blocks c.args.base.now in
    let block = block_is held_are c.args.below ps c.args.cid.now c.in-Some.block.now c.in-Some.ensures is_cid held in
    let bytes : c.bytes.result.now ≡ spelled (node c.args.below ps) = c.bytes.ensures.value ∙ ap (λ (b : BlockParts). b.bytes) block in
    let place = c.place_in.result in
    let small : place < 32 = omega (arith, c.place_in.ensures) in
    let there = place_is c.args.below place c.args.hash.now c.args.key.now is_hash c.place_in.ensures in
    let group = at_place (51 - c.args.below) place ps in
    let at = sym (ap (option_map {T = Bor (List ℕ)} {U = List ℕ} (λ s. s.now)) c.in-Some-Some.field-0-is) ∙ c.in-Some-Some.ensures c.args.below ps bytes fit in
    subst (λ (o : Option Value). IfOk c.find_behind.result (λ found. option_map {T = Bor (List ℕ)} {U = List ℕ} (λ s. s.now) found ≡ option_map spelled o)) (found_at (51 - c.args.below) place ps c.args.key.now there)
    (c.find_behind.ensures group is_hash (pointer_is c.args.below group c.in-Some-Some.pointer.now at) (group_held held_are c.args.below place ps small held) (group_fit (51 - c.args.below) place ps fit))

pub find_under-returns-in-Some-None : goal.find_under-returns-in-Some-None
find_under-returns-in-Some-None g t c = λ ps is_hash is_cid held fit.
    let held_are = g.B.BlockSource.blocks c.args.base.now in
    let block = block_is held_are c.args.below ps c.args.cid.now c.in-Some.block.now c.in-Some.ensures is_cid held in
    let bytes : c.bytes.result.now ≡ spelled (node c.args.below ps) = c.bytes.ensures.value ∙ ap (λ (b : BlockParts). b.bytes) block in
    let place = c.place_in.result in
    let there = place_is c.args.below place c.args.hash.now c.args.key.now is_hash c.place_in.ensures in
    let group = at_place (51 - c.args.below) place ps in
    let at = sym (ap (option_map {T = Bor (List ℕ)} {U = List ℕ} (λ s. s.now)) c.in-Some-None.field-0-is) ∙ c.in-Some-None.ensures c.args.below ps bytes fit in
    ap (option_map spelled) (sym (no_pair c.args.below group c.args.key.now at) ∙ found_at (51 - c.args.below) place ps c.args.key.now there)

-- ---- find_behind

pub find_behind-returns-in-Some : goal.find_behind-returns-in-Some
find_behind-returns-in-Some g t c = λ group is_hash is held fit.
    c.in-Some.ensures group (bucket_is c.args.below group c.args.pointer.now is c.if-not-is_link.ensures.link) fit

pub find_behind-returns : goal.find_behind-returns
find_behind-returns g t c = λ group is_hash is held fit.
    let has = node_is_there (g.B.BlockSource.blocks c.args.base.now) c.args.below group c.args.pointer.now is c.if-not-is_link.ensures.bucket held in
    let cid = c.in_ok-cid.ensures (node_block (c.args.below - 1) group).cid (is_cid (c.args.below - 1) group) has.link in
    c.find_under.ensures group is_hash cid has.all fit
