-- The new blocks of two lists are those of the first, and those of the second that are not among them.
use Rattle.std.proofs.Common.{◌≡◌, List, [], ◌∷◌, ◌++◌, Bool, true, false, cond, not, ◌||◌, Some, None, refl, sym, ap, ◌∙◌}
use Rattle.std.specs.Prelude.{is_some}
use Rattle.std.specs.List.{filter}
use Rattle.fil_base.specs.CidEquality.{parts_equiv, same_parts}
use Rattle.fil_base.specs.CidParts.{CidParts}
use Rattle.cid_core.specs.BlockParts.{BlockParts, found}
use Rattle.tree_blocks.specs.NewBlocks.{new_blocks}
use Rattle.tree_blocks.proofs.NewBlocks.{found_both}
use Rattle.tree_blocks.proofs.PutNew.{new_blocks_append}

-- no block of a list has the CID of this one
abbrev pub is_other : List BlockParts → BlockParts → Bool
is_other blocks b = not (is_some (found blocks b.cid))

-- ---- CIDs that are the same

found_alike : (blocks : List BlockParts) (a b : CidParts) → same_parts a b ≡ true → found blocks a ≡ found blocks b
found_alike [] a b same = refl
found_alike (x ∷ blocks) a b same =
    let test : same_parts x.cid a ≡ same_parts x.cid b = parts_equiv.symm x.cid a ∙ parts_equiv.congr a b x.cid same ∙ parts_equiv.symm b x.cid in
    λ i. cond (test i) (Some x) (found_alike blocks a b same i)

is_it : (b : BlockParts) (cid : CidParts) → is_some (found (b ∷ []) cid) ≡ true → same_parts b.cid cid ≡ true
is_it b cid there = by (same_parts b.cid cid) there where
  by : (t : Bool) → is_some (cond t (Some b) None) ≡ true → t ≡ true
  by true is = refl
  by false is = is

-- ---- tests

with_known : (h a t : Bool) → (t ≡ true → a ≡ true) → (h || a) ≡ ((h || t) || a)
with_known true a t so = refl
with_known false a true so = so refl
with_known false a false so = refl

with_new : (h a t : Bool) → ((h || a) || t) ≡ ((h || t) || a)
with_new true a t = refl
with_new false true true = refl
with_new false true false = refl
with_new false false true = refl
with_new false false false = refl

-- ---- two lists in place of one

-- a list has the CIDs of two others
record HasBoth (both held added : List BlockParts) : Type 0 where
  same : (cid : CidParts) → is_some (found both cid) ≡ (is_some (found held cid) || is_some (found added cid))

-- one of them gets a block whose CID the other has
both_known : (both held added : List BlockParts) (b : BlockParts) → HasBoth both held added → is_some (found added b.cid) ≡ true → HasBoth both (held ++ b ∷ []) added
both_known both held added b has there = record {
  same = λ cid.
      has.same cid ∙ with_known (is_some (found held cid)) (is_some (found added cid)) (is_some (found (b ∷ []) cid)) (λ is. ap is_some (sym (found_alike added b.cid cid (is_it b cid is))) ∙ there)
      ∙ ap (λ t. t || is_some (found added cid)) (sym (found_both held (b ∷ []) cid));
}

-- both get a block
both_new : (both held added : List BlockParts) (b : BlockParts) → HasBoth both held added → HasBoth (both ++ b ∷ []) (held ++ b ∷ []) added
both_new both held added b has = record {
  same = λ cid.
      found_both both (b ∷ []) cid ∙ ap (λ t. t || is_some (found (b ∷ []) cid)) (has.same cid) ∙ with_new (is_some (found held cid)) (is_some (found added cid)) (is_some (found (b ∷ []) cid))
      ∙ ap (λ t. t || is_some (found added cid)) (sym (found_both held (b ∷ []) cid));
}

-- ---- new blocks

-- what is new to both lists is what is new to the one and not among the other
new_to_both : (added blocks both held : List BlockParts) → HasBoth both held added → new_blocks both blocks ≡ filter (is_other added) (new_blocks held blocks)
new_to_both added [] both held has = refl
new_to_both added (b ∷ blocks) both held has =
    let kept = new_blocks both blocks in
    let after = new_blocks (both ++ b ∷ []) blocks in
    ap (λ t. cond t kept (b ∷ after)) (has.same b.cid)
    ∙ elim (is_some (found held b.cid)) as (λ h. cond (h || is_some (found added b.cid)) kept (b ∷ after) ≡ filter (is_other added) (cond h (new_blocks held blocks) (b ∷ new_blocks (held ++ b ∷ []) blocks))) [
      | true ↦ new_to_both added blocks both held has
      | false ↦ elim (is_some (found added b.cid)) as (λ a. is_some (found added b.cid) ≡ a
          → cond a kept (b ∷ after) ≡ cond (not a) (b ∷ filter (is_other added) (new_blocks (held ++ b ∷ []) blocks)) (filter (is_other added) (new_blocks (held ++ b ∷ []) blocks))) [
            | true ↦ λ there. new_to_both added blocks both (held ++ b ∷ []) (both_known both held added b has there)
            | false ↦ λ none. ap (λ (bs : List BlockParts). b ∷ bs) (new_to_both added blocks (both ++ b ∷ []) (held ++ b ∷ []) (both_new both held added b has))
          ] refl
    ]

-- the new blocks of one list, with those of another that are not among them
pub new_of_both : (held first second new blocks after : List BlockParts) → new ≡ new_blocks held first → blocks ≡ new_blocks held second → after ≡ new ++ filter (is_other new) blocks → after ≡ new_blocks held (first ++ second)
new_of_both held first second new blocks after of-first of-second is =
    is ∙ ap (λ (bs : List BlockParts). new ++ filter (is_other new) bs) of-second
    ∙ ap (λ (bs : List BlockParts). new ++ bs) (sym (new_to_both new second (held ++ new) held (record { same = found_both held new })))
    ∙ ap (λ (bs : List BlockParts). bs ++ new_blocks (held ++ bs) second) of-first
    ∙ sym (new_blocks_append held first second)
