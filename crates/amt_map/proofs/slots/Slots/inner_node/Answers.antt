use Rattle.std.proofs.Common.{List, ℕ, ◌∷◌, [], ◌++◌, ◌+◌, ap, ◌∙◌}
use Rattle.amt_map.proofs.SlotSteps.{inner_bytes}
use Rattle.amt_map.proofs.slots.Slots.inner_node.Goals as goal

pub returns : goal.returns
returns c = λ links count all.
    c.in_ok-push.ensures.items ∙ ap (λ (xs : List ℕ). xs ++ 0x80 ∷ []) (
    c.in_ok-extend_from_slice-2.ensures.items ∙ ap (λ (xs : List ℕ). xs ++ c.as_slice.result.now) c.in_ok-extend_from_slice.ensures.items
    ∙ ap (λ (xs : List ℕ). (xs ++ 0x83 ∷ 0x41 ∷ c.args.self.now.bitmap ∷ (0x80 + c.args.self.now.count) ∷ []) ++ c.as_slice.result.now) c.in_ok-bytes.ensures.items)
    ∙ inner_bytes c.args.self.now.bitmap c.args.self.now.count c.as_slice.result.now links c.requires count (c.as_slice.ensures.value ∙ all)
