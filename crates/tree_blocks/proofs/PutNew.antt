-- One more block behind new ones.
use Rattle.std.proofs.Common.{◌≡◌, List, [], ◌∷◌, ◌++◌, true, false, cond, refl, sym, ap, ◌∙◌, append_assoc, append-nil}
use Rattle.std.specs.Prelude.{is_some}
use Rattle.cid_core.specs.BlockParts.{BlockParts, found}
use Rattle.tree_blocks.specs.NewBlocks.{new_blocks}

-- those of two lists are those of the first, and those of the second over a base that has them too
pub new_blocks_append : (held xs ys : List BlockParts) → new_blocks held (xs ++ ys) ≡ new_blocks held xs ++ new_blocks (held ++ new_blocks held xs) ys
new_blocks_append held [] ys = ap (λ (bs : List BlockParts). new_blocks bs ys) (sym (append-nil held))
new_blocks_append held (x ∷ xs) ys = elim (is_some (found held x.cid)) as (λ t. cond t (new_blocks held (xs ++ ys)) (x ∷ new_blocks (held ++ (x ∷ [])) (xs ++ ys))
    ≡ cond t (new_blocks held xs) (x ∷ new_blocks (held ++ (x ∷ [])) xs) ++ new_blocks (held ++ cond t (new_blocks held xs) (x ∷ new_blocks (held ++ (x ∷ [])) xs)) ys) [
      | true ↦ new_blocks_append held xs ys
      | false ↦ ap (λ (bs : List BlockParts). x ∷ bs) (new_blocks_append (held ++ (x ∷ [])) xs ys)
          ∙ ap (λ (bs : List BlockParts). x ∷ (new_blocks (held ++ (x ∷ [])) xs ++ new_blocks bs ys)) (append_assoc held (x ∷ []) (new_blocks (held ++ (x ∷ [])) xs))
    ]

-- those with one more block
pub new_blocks_push : (held blocks new after : List BlockParts) (b : BlockParts) → new ≡ new_blocks held blocks
    → after ≡ cond (is_some (found (held ++ new) b.cid)) new (new ++ b ∷ []) → after ≡ new_blocks held (blocks ++ b ∷ [])
new_blocks_push held blocks new after b same is =
    is ∙ elim (is_some (found (held ++ new) b.cid)) as (λ t. cond t new (new ++ b ∷ []) ≡ new ++ cond t [] (b ∷ [])) [ true ↦ sym (append-nil new) | false ↦ refl ]
    ∙ ap (λ (bs : List BlockParts). bs ++ cond (is_some (found (held ++ bs) b.cid)) [] (b ∷ [])) same
    ∙ sym (new_blocks_append held blocks (b ∷ []))
