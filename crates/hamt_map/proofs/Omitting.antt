-- Blocks of a tree without some that a base holds.
use Rattle.std.proofs.Common.{◌≡◌, inl, inr, List, [], ◌∷◌, ◌++◌, true, cond, ◌||◌, Some, refl, sym, ap, subst, ◌∙◌, append_assoc, append-nil}
use Rattle.std.proofs.lemmas.List.Elements.{All-head, All-tail}
use Rattle.std.specs.Prelude.{is_some}
use Rattle.cid_core.specs.BlockParts.{BlockParts, found}
use Rattle.tree_blocks.specs.NewBlocks.{new_blocks}
use Rattle.tree_blocks.proofs.NewBlocks.{found_both}
use Rattle.hamt_map.specs.Kept.{AreHeld}
use Rattle.hamt_map.specs.Omitted.{Adds, Omits}

-- held ones can be left out
pub omits_held : (held all : List BlockParts) → AreHeld held all → Omits held [] all
omits_held held [] are = refl
omits_held held (b ∷ all) are = inl (All-head (λ b. found held b.cid ≡ Some b) b all are, omits_held held all (All-tail (λ b. found held b.cid ≡ Some b) b all are))

-- all can be kept
pub omits_none : (held all : List BlockParts) → Omits held all all
omits_none held [] = refl
omits_none held (b ∷ all) = inr (all, refl, omits_none held all)

-- of two lists one after the other
pub omits_both : (held some all more behind : List BlockParts) → Omits held some all → Omits held more behind → Omits held (some ++ more) (all ++ behind)
omits_both held some [] more behind first second = subst (λ (bs : List BlockParts). Omits held (bs ++ more) behind) (sym first) second
omits_both held some (b ∷ all) more behind (inl there) second = inl (there.0, omits_both held some all more behind there.1 second)
omits_both held some (b ∷ all) more behind (inr next) second = inr (next.0 ++ more, ap (λ (bs : List BlockParts). bs ++ more) next.1, omits_both held next.0 all more behind next.2 second)

-- where all are held, none is put
pub adds_held : (held old all : List BlockParts) → AreHeld held all → Adds held old old all
adds_held held old all are = record { some = []; put = sym (append-nil old); left = omits_held held all are }

-- all are put
pub adds_all : (held old new all : List BlockParts) → new ≡ old ++ all → Adds held old new all
adds_all held old new all is = record { some = all; put = is; left = omits_none held all }

-- those of two lists, one after the other
pub adds_both : (held old now new all behind : List BlockParts) → Adds held old now all → Adds held now new behind → Adds held old new (all ++ behind)
adds_both held old now new all behind first second = record {
  some = first.some ++ second.some;
  put = second.put ∙ ap (λ (bs : List BlockParts). bs ++ second.some) first.put ∙ append_assoc old first.some second.some;
  left = omits_both held first.some all second.some behind first.left second.left;
}

-- one more block, which is put
pub adds_push : (held old now new all : List BlockParts) (b : BlockParts) → Adds held old now all → new ≡ now ++ b ∷ [] → Adds held old new (all ++ b ∷ [])
adds_push held old now new all b so_far is = adds_both held old now new all (b ∷ []) so_far (adds_all held now new (b ∷ []) is)

-- ---- new blocks

over_more : (held more : List BlockParts) (b : BlockParts) → found held b.cid ≡ Some b → is_some (found (held ++ more) b.cid) ≡ true
over_more held more b there = found_both held more b.cid ∙ ap (λ o. is_some o || is_some (found more b.cid)) there

new_within : (held more some all : List BlockParts) → Omits held some all → new_blocks (held ++ more) some ≡ new_blocks (held ++ more) all
new_within held more some [] none = ap (new_blocks (held ++ more)) none
new_within held more some (b ∷ all) (inl there) =
    new_within held more some all there.1
    ∙ sym (ap (λ t. cond t (new_blocks (held ++ more) all) (b ∷ new_blocks ((held ++ more) ++ (b ∷ [])) all)) (over_more held more b there.0))
new_within held more some (b ∷ all) (inr next) =
    ap (new_blocks (held ++ more)) next.1
    ∙ (λ i. cond (is_some (found (held ++ more) b.cid)) (new_within held more next.0 all next.2 i)
    (b ∷ (ap (λ (bs : List BlockParts). new_blocks bs next.0) (append_assoc held more (b ∷ [])) ∙ new_within held (more ++ (b ∷ [])) next.0 all next.2 ∙ ap (λ (bs : List BlockParts). new_blocks bs all) (sym (append_assoc held more (b ∷ [])))) i))

-- what the base holds can be left out of what is looked through for new blocks
pub new_of_omitted : (held some all : List BlockParts) → Omits held some all → new_blocks held some ≡ new_blocks held all
new_of_omitted held some all omits =
    ap (λ (bs : List BlockParts). new_blocks bs some) (sym (append-nil held)) ∙ new_within held [] some all omits ∙ ap (λ (bs : List BlockParts). new_blocks bs all) (append-nil held)
