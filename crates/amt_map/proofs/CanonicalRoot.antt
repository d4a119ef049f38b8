-- A node or a root that was read is judged with no need to build it.
use Rattle.std.proofs.Common.{◌≡◌, ℕ, ◌/◌, ◌^◌, ◌<◌, ◌==◌, ◌&&◌, Bool, true, List, length, Ok, Result, IsTrue, T, sym, ap, subst, ◌∙◌, arith}
use Rattle.std.proofs.lemmas.Bool.{eqb-true}
use Rattle.std.proofs.lemmas.Cmp.{nat_cmp_total}
use Rattle.std.proofs.lemmas.List.{length-map}
use Rattle.std.proofs.lemmas.List.Elements.{All-weaker}
use Rattle.std.specs.Ordering.{nat_cmp}
use Rattle.std.specs.FinMap.{entries, entries_sorted, from_entries, get-entries, get-from_entries, nat_cmp-IsAntisymmetric}
use Rattle.std.specs.FinMap.Entries.{is_sorted, same_entries}
use Rattle.fil_base.specs.CidParts.{CidParts}
use Rattle.cid_core.specs.BlockParts.{BlockParts, IsBlock, block_of}
use Rattle.cid_core.specs.CidOf.{digest_under}
use Rattle.dag_cbor.specs.Plain.{IsPlain}
use Rattle.dag_cbor.specs.Spelling.{spelled}
use Rattle.dag_cbor.specs.declared.value.Value.{Value}
use Rattle.tree_blocks.specs.declared.fault.TreeFault.{TreeFault}
use Rattle.amt_map.specs.Canonical.{IsReadRoot, has_numbers, is_node_cid, root_with}
use Rattle.amt_map.specs.Holds.{FitRoot}
use Rattle.amt_map.specs.Loading.{IsNodeOf}
use Rattle.amt_map.specs.Node.{height_of, node, node_block, root_block, root_of}
use Rattle.amt_map.specs.OneNode.{IsOneNode}
use Rattle.amt_map.specs.Pairs.{Pairs}
use Rattle.amt_map.specs.ValueBytes.{IsOneValue, the_value}
use Rattle.amt_map.specs.Walk.{judged, judged_root}
use Rattle.amt_map.proofs.NodeAgain.{judged_again}
use Rattle.amt_map.proofs.NodeTexts.{height_spelled}
use Rattle.amt_map.proofs.OneValue.{the_spelled}
use Rattle.amt_map.proofs.RootAgain.{root_again}
use Rattle.amt_map.proofs.Within.{first, second}

-- ---- blocks

-- bytes under a CID of a node are its block
canonical_block : (text : List ℕ) (b : BlockParts) → b.bytes ≡ text → IsBlock b → is_node_cid b.cid ≡ true → block_of 0x71 text ≡ b
canonical_block text b is block named =
    let codec : b.cid.codec ≡ 0x71 = eqb-true b.cid.codec 0x71 (first (b.cid.codec == 0x71) (b.cid.hash == 0xb220) named) in
    let hash : b.cid.hash ≡ 0xb220 = eqb-true b.cid.hash 0xb220 (second (b.cid.codec == 0x71) (b.cid.hash == 0xb220) named) in
    let bytes : text ≡ b.bytes = sym is in
    let digest : digest_under 0xb220 text ≡ b.cid.digest = ap (digest_under 0xb220) bytes ∙ ap (λ (h : ℕ). digest_under h b.bytes) (sym hash) ∙ block.matches in
    let version = sym block.supported.version in
    λ i. record { cid = record { version = version i; codec = sym codec i; hash = sym hash i; digest = digest i }; bytes = bytes i }

-- ---- a node

full_first : (full named : Bool) (test : Bool) → test ≡ (full && named) → test ≡ true → IsTrue full × (named ≡ true)
full_first full named test is passed = (first full named (sym is ∙ passed), second full named (sym is ∙ passed))

pub judged_at_once : (height : ℕ) (b : BlockParts) (those : Pairs) (full test : Bool) (cid : CidParts) → cid ≡ b.cid → IsBlock b → test ≡ (full && is_node_cid cid) → test ≡ true → (IsTrue full → b.bytes ≡ spelled (node height those)) → judged height b those ≡ Ok those
judged_at_once height b those full test cid same block is passed spells =
    let both = full_first full (is_node_cid cid) test is passed in
    let canonical : node_block height those ≡ b = canonical_block (spelled (node height those)) b (spells both.0) block (ap is_node_cid (sym same) ∙ both.1) in
    subst (λ (c : BlockParts). judged height c those ≡ Ok those) canonical (judged_again height those)

-- what a block spells, if its value is the node of pairs
pub full_bytes : (height : ℕ) (bytes read : List ℕ) (full : Bool) (walked : Result Pairs TreeFault) (pairs : Pairs) → IsOneValue bytes → read ≡ bytes → (IsTrue full → IsNodeOf height (the_value read) walked) → walked ≡ Ok pairs
    → IsTrue full → bytes ≡ spelled (node height pairs)
full_bytes height bytes read full walked pairs one same is_node walk so = the_spelled bytes one ∙ ap (λ (bs : List ℕ). spelled (the_value bs)) (sym same) ∙ ap spelled (is_node so pairs walk)

-- ---- a root

sorted_again : (es : Pairs) → T (is_sorted nat_cmp es) → entries {R = nat_cmp} (from_entries es) ≡ es
sorted_again es rise =
    same_entries nat_cmp nat_cmp_total nat_cmp-IsAntisymmetric (entries (from_entries es)) es (entries_sorted (from_entries {R = nat_cmp} es)) rise
    (λ q. sym (get-entries (from_entries es) q) ∙ get-from_entries nat_cmp_total es q)

pub root_at_once : (b : BlockParts) (height count : ℕ) (full test : Bool) (read : List (ℕ × List ℕ)) (those : Pairs) (cid : CidParts) → cid ≡ b.cid → IsBlock b → test ≡ ((full && is_node_cid cid) && has_numbers height count read) → test ≡ true
    → IsReadRoot b height count full read those → judged_root b (from_entries those) ≡ Ok (from_entries those)
root_at_once b height count full test read those cid same block is passed reads =
    let all : ((full && is_node_cid cid) && has_numbers height count read) ≡ true = sym is ∙ passed in
    let form = first (full && is_node_cid cid) (has_numbers height count read) all in
    let numbers = second (full && is_node_cid cid) (has_numbers height count read) all in
    let count_is : count ≡ length those =
    eqb-true count (length read) (first (count == length read) (height == height_of read) numbers) ∙ ap length reads.are.same ∙ length-map {B = ℕ × List ℕ} those (λ p. (p.0, spelled p.1)) in
    let height_is : height ≡ height_of those =
    eqb-true height (height_of read) (second (count == length read) (height == height_of read) numbers) ∙ ap height_of reads.are.same ∙ height_spelled those in
    let whole : root_with height count (node height those) ≡ root_of those = λ i. root_with (height_is i) (count_is i) (node (height_is i) those) in
    let bytes : b.bytes ≡ spelled (root_of those) = reads.bytes (first full (is_node_cid cid) form) ∙ ap spelled whole in
    let canonical : root_block those ≡ b = canonical_block (spelled (root_of those)) b bytes block (ap is_node_cid (sym same) ∙ second full (is_node_cid cid) form) in
    let kept : root_block (entries {R = nat_cmp} (from_entries those)) ≡ b = ap root_block (sorted_again those reads.one.rising) ∙ canonical in
    subst (λ (c : BlockParts). judged_root c (from_entries those) ≡ Ok (from_entries those)) kept (root_again (from_entries those))

-- what a root's block spells, if its node is that of pairs
pub full_root : (height count : ℕ) (bytes part : List ℕ) (full : Bool) (walked : Result Pairs TreeFault) (pairs : Pairs) → IsOneValue bytes → the_value bytes ≡ root_with height count (the_value part) → (IsTrue full → IsNodeOf height (the_value part) walked) → walked ≡ Ok pairs
    → IsTrue full → bytes ≡ spelled (root_with height count (node height pairs))
full_root height count bytes part full walked pairs one is is_node walk so = the_spelled bytes one ∙ ap spelled is ∙ ap (λ (n : Value). spelled (root_with height count n)) (is_node so pairs walk)

low_index : (n : ℕ) → n < 2 ^ 60 → n / 8 ^ 20 ≡ 0
low_index n lt = omega (arith, lt)

-- pairs of a tree are under one node at the greatest height
pub root_one : (height : ℕ) (pairs : Pairs) → IsOneNode height 0 pairs → FitRoot pairs → IsOneNode 19 0 pairs
root_one height pairs one fit = record { within = All-weaker (λ p. (p.0 < 2 ^ 60) × IsPlain 125 p.1) (λ p. p.0 / 8 ^ 20 ≡ 0) (λ p h. low_index p.0 h.0) pairs fit; rising = one.rising }
