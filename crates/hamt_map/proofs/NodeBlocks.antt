-- The blocks of a tree's nodes.
use Rattle.std.proofs.Common.{◌≡◌, ℕ, zero, suc, ◌-◌, List, [], ◌∷◌, true, false, cond, refl, sym, subst}
use Rattle.std.proofs.lemmas.List.Elements.{All-append, All-cons, All-nil}
use Rattle.std.specs.Prelude.{All, OnOk}
use Rattle.std.specs.declared.result.Result.{Result}
use Rattle.std.specs.declared.result.Result.TheVariants.{Ok, Err}
use Rattle.std.specs.List.{flat_map}
use Rattle.cid_core.specs.BlockParts.{BlockParts, block_of}
use Rattle.tree_blocks.specs.NewBlocks.{IsNodeBlock}
use Rattle.hamt_map.specs.Node.{groups, is_small, node_block, nodes}
use Rattle.hamt_map.specs.Pairs.{Pairs}

all_flat : (f : ℕ × Pairs → List BlockParts) → ((g : ℕ × Pairs) → All IsNodeBlock (f g)) → (gs : List (ℕ × Pairs)) → All IsNodeBlock (flat_map f gs)
all_flat f each [] = All-nil IsNodeBlock
all_flat f each (g ∷ gs) = All-append IsNodeBlock (f g) (flat_map f gs) (each g) (all_flat f each gs)

pub nodes_own : (below : ℕ) (pairs : Pairs) → All IsNodeBlock (nodes below pairs)
unfolding nodes
nodes_own zero pairs = All-cons IsNodeBlock (node_block zero pairs) [] (record { cid = refl }) (All-nil IsNodeBlock)
nodes_own (suc below) pairs =
    All-append IsNodeBlock _ (node_block (suc below) pairs ∷ [])
    (all_flat (λ g. cond (is_small g.1) [] (nodes below g.1)) (λ g. elim (is_small g.1) as (λ b. All IsNodeBlock (cond b [] (nodes below g.1))) [ true ↦ All-nil IsNodeBlock | false ↦ nodes_own below g.1 ]) (groups (50 - below) pairs))
    (All-cons IsNodeBlock (node_block (suc below) pairs) [] (record { cid = refl }) (All-nil IsNodeBlock))

-- a block of bytes in DAG-CBOR
pub own_node : (b : BlockParts) (bytes : List ℕ) → b ≡ block_of 0x71 bytes → IsNodeBlock b
own_node b bytes is = subst IsNodeBlock (sym is) (record { cid = refl })

-- what holds anyway
pub on_ok_from : {A E : Type 0} (r : Result A E) {P : Type 0} → P → OnOk r P
on_ok_from (Ok x) p = p
on_ok_from (Err e) p = tt
