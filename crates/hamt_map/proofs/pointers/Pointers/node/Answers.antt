use Rattle.std.proofs.Common.{◌++◌, ℕ, List, ap, ◌∙◌}
use Rattle.std.specs.Int.Digits.{digits_of}
use Rattle.dag_cbor.specs.Spelling.{head}
use Rattle.hamt_map.proofs.PointerSteps.{node_bytes}
use Rattle.hamt_map.proofs.pointers.Pointers.node.Goals as goal

pub returns : goal.returns
returns c = λ pointers many are.
    let here = c.args.self.now in
    c.in_ok-extend_from_slice.ensures.items
    ∙ ap (λ (t : List ℕ). t ++ c.as_slice.result.now) (c.in_ok-put_head-3.ensures ∙ ap (λ (t : List ℕ). t ++ head 4 here.count) (c.in_ok-put_number.ensures ∙ ap (λ (t : List ℕ). t ++ digits_of 256 here.bits)
    (c.in_ok-put_head-2.ensures ∙ ap (λ (t : List ℕ). t ++ head 2 c.digit_count.result) (c.in_ok-put_head.ensures ∙ ap (λ (t : List ℕ). t ++ head 4 2) c.in_ok-bytes.ensures.items))))
    ∙ node_bytes (digits_of 256 here.bits) c.as_slice.result.now c.digit_count.result here.count pointers c.digit_count.ensures.count many (c.as_slice.ensures.value ∙ are)
