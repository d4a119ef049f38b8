-- The tree of pairs that lie over those of a kept tree.
use Rattle.std.proofs.Common.{◌≡◌, ℕ, List, [], ◌∷◌, ◌++◌, Some, refl, sym, ap, subst, ◌∙◌}
use Rattle.std.proofs.lemmas.List.Elements.{All-head}
use Rattle.std.specs.FinMap as finmap
use Rattle.std.specs.FinMap.{entries}
use Rattle.fil_base.specs.CidParts.{CidParts}
use Rattle.cid_core.specs.BlockParts.{BlockParts, found}
use Rattle.hamt_map.specs.Canonical.{map_of}
use Rattle.hamt_map.specs.Groups.{nodes_under}
use Rattle.hamt_map.specs.Kept.{AreHeld, IsKept, over}
use Rattle.hamt_map.specs.KeptNode.{IsKeptNode}
use Rattle.hamt_map.specs.Node.{node_block, nodes}
use Rattle.hamt_map.specs.Omitted.{Adds, Omits}
use Rattle.hamt_map.specs.Pairs.{Map, Pairs}
use Rattle.hamt_map.proofs.MapParts.{both_maps, entries_again}
use Rattle.hamt_map.proofs.Merging.{all_back, all_front}
use Rattle.hamt_map.proofs.NodeParts.{nodes_are}
use Rattle.hamt_map.proofs.Omitting.{adds_push}

-- pairs of a map in any order, over those of another
pub over_same : (own kept : Map) (ps : Pairs) → entries (map_of ps) ≡ entries own → map_of (ps ++ entries kept) ≡ over own kept
over_same own kept ps same = both_maps ps (entries kept) (entries own) (entries kept) (finmap.same_entries_map (map_of ps) own same ∙ sym (entries_again own)) refl

-- the root's node
pub kept_root : (held : List BlockParts) (root : CidParts) (kept : Map) (b : BlockParts) (bytes : List ℕ) → IsKept held root kept → Some b ≡ found held root → bytes ≡ b.bytes → IsKeptNode held 50 bytes (entries kept)
kept_root held root kept b bytes is there of_block =
    let top : BlockParts = node_block 50 (entries kept) in
    let all : AreHeld held (nodes_under 50 (entries kept) ++ top ∷ []) = subst (AreHeld held) (nodes_are 50 (entries kept)) is.nodes in
    let own : found held top.cid ≡ Some top = All-head (λ b. found held b.cid ≡ Some b) top [] (all_back (λ b. found held b.cid ≡ Some b) (nodes_under 50 (entries kept)) (top ∷ []) all) in
    let both : Some b ≡ Some top = there ∙ ap (found held) is.top ∙ own in
    let same : b ≡ top = cc both in
    record {
      spells = of_block ∙ ap (λ (x : BlockParts). x.bytes) same;
      under = all_front (λ b. found held b.cid ≡ Some b) (nodes_under 50 (entries kept)) (top ∷ []) all;
      fit = is.fit;
      sorted = finmap.entries_sorted kept;
    }

-- all nodes, the root's behind those under it
pub tree_omits : (held now after : List BlockParts) (es : Pairs) (block : BlockParts) → Adds held [] now (nodes_under 50 es) → block ≡ node_block 50 es → after ≡ now ++ block ∷ [] → Omits held after (nodes 50 es)
tree_omits held now after es block under is pushed =
    let all = adds_push held [] now after (nodes_under 50 es) (node_block 50 es) under (pushed ∙ ap (λ (b : BlockParts). now ++ b ∷ []) is) in
    subst (λ (bs : List BlockParts). Omits held bs (nodes 50 es)) (sym all.put) (subst (Omits held all.some) (sym (nodes_are 50 es)) all.left)
