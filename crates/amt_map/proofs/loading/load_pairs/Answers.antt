use Rattle.std.proofs.Common.{ap, ◌∙◌, sym, subst, Ok, List, ℕ, arith}
use Rattle.amt_map.specs.OneNode.{IsOneNode}
use Rattle.amt_map.specs.Reading.{shown}
use Rattle.amt_map.specs.ValueBytes.{IsOneValue, the_value}
use Rattle.amt_map.proofs.CanonicalRoot.{full_root, root_one}
use Rattle.amt_map.proofs.FirstIndex.{root_room}
use Rattle.amt_map.proofs.ReadOneNode.{one_node_spelled, read_one_node}
use Rattle.amt_map.proofs.ReadParts.{root_low}
use Rattle.amt_map.proofs.WalkSteps.{are_spelled, root_found, root_fault}
use Rattle.amt_map.proofs.loading.load_pairs.Goals as goal

pub put_pairs-requires-clause-from : goal.put_pairs-requires-clause-from
put_pairs-requires-clause-from g c =
    root_room c.in-Some.read.height (root_low (the_value c.bytes.result.now) c.in-Some.read.height (the_value c.in-Some.read.node.now) (rw c.in-Some.is at c.in_ok-read.ensures.found))

pub judge_root-requires-clause-node : goal.judge_root-requires-clause-node
judge_root-requires-clause-node g c =
    let put = c.in_ok-full.ensures.found in
    let are = are_spelled _ _ _ (ap shown c.new-pairs.ensures.items) put in
    let one = read_one_node _ c.in-Some.read.height c.args.root.now 0 0 (the_value c.in-Some.read.node.now) put.pairs (omega arith) put.walk in
    subst (λ (ps : List (ℕ × List ℕ)). IsOneNode 19 0 ps) (sym are.same) (one_node_spelled 19 0 put.pairs (root_one c.in-Some.read.height put.pairs one put.fit))

pub returns-clause-found : goal.returns-clause-found
returns-clause-found g c =
    let put = c.in_ok-full.ensures.found in
    let are = are_spelled _ _ _ (ap shown c.new-pairs.ensures.items) put in
    let one = read_one_node _ c.in-Some.read.height c.args.root.now 0 0 (the_value c.in-Some.read.node.now) put.pairs (omega arith) put.walk in
    root_found _ c.args.root.now c.in_ok-block.block.now (the_value c.bytes.result.now) c.in-Some.read.height (the_value c.in-Some.read.node.now) put.pairs c.judge_root.result
    (c.in_ok-block.ensures.found ∙ ap (λ (bs : List ℕ). Ok (c.in_ok-block.block.now, the_value bs)) (sym c.bytes.ensures.value)) (rw c.in-Some.is at c.in_ok-read.ensures.found) put.walk
    (c.judge_root.ensures.found put.pairs (record {
      are = are;
      one = root_one c.in-Some.read.height put.pairs one put.fit;
      bytes = λ so.
          sym c.bytes.ensures.value
          ∙ full_root c.in-Some.read.height c.in-Some.read.count c.bytes.result.now c.in-Some.read.node.now c.in_ok-full.full _ put.pairs (subst IsOneValue (sym c.bytes.ensures.value) c.in_ok-block.ensures.value) (rw c.in-Some.is at c.in_ok-read.ensures.whole)
          c.in_ok-full.ensures.node put.walk so;
    }))

pub returns-clause-fault : goal.returns-clause-fault
returns-clause-fault g c =
    let put = c.in_ok-full.ensures.found in
    let are = are_spelled _ _ _ (ap shown c.new-pairs.ensures.items) put in
    root_fault _ c.args.root.now c.in_ok-block.block.now (the_value c.bytes.result.now) c.in-Some.read.height (the_value c.in-Some.read.node.now) put.pairs c.judge_root.result
    (c.in_ok-block.ensures.found ∙ ap (λ (bs : List ℕ). Ok (c.in_ok-block.block.now, the_value bs)) (sym c.bytes.ensures.value)) (rw c.in-Some.is at c.in_ok-read.ensures.found) put.walk
    (c.judge_root.ensures.fault put.pairs are)
