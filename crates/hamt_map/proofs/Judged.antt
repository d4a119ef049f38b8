-- Judging a node: with no need to build it, or anew.
use Rattle.std.proofs.Common.{◌≡◌, ℕ, ◌&&◌, ◌<◌, Bool, true, false, eqb, List, [], ◌∷◌, ◌++◌, take, drop, length, Option, Some, None, Ok, Result, IfOk, refl, sym, ap, subst, ◌∙◌, arith}
use Rattle.std.proofs.lemmas.Bool.{eqb-true}
use Rattle.std.proofs.lemmas.List.{take-append-drop}
use Rattle.std.proofs.lemmas.List.Elements.{All-append, All-cons, All-nil}
use Rattle.std.specs.Prelude.{IfSome, T, nat_eq}
use Rattle.std.specs.Cmp.Lexicographic.{pointwise, same_text}
use Rattle.std.specs.FinMap.{entries}
use Rattle.std.specs.Int.Digits.{digits_of}
use Rattle.fil_base.specs.CidParts.{CidParts}
use Rattle.cid_core.specs.BlockParts.{BlockParts, IsBlock, found}
use Rattle.cid_core.specs.CidOf.{digest_under}
use Rattle.dag_cbor.specs.Spelling.{spelled}
use Rattle.dag_cbor.specs.declared.value.Value.{Value}
use Rattle.tree_blocks.specs.declared.fault.TreeFault.{TreeFault}
use Rattle.hamt_map.specs.Canonical.{ArePut, has_canonical_form, is_field, map_of, node_of}
use Rattle.hamt_map.specs.Groups.{nodes_under}
use Rattle.hamt_map.specs.Holds.{Holds, spellings}
use Rattle.hamt_map.specs.Kept.{AreHeld}
use Rattle.hamt_map.specs.Node.{node, node_block, nodes}
use Rattle.hamt_map.specs.Pairs.{Map, Pairs}
use Rattle.hamt_map.specs.Walk.{judged}
use Rattle.hamt_map.specs.WalkedPairs.{IsRead, IsTreePut, StandIn}
use Rattle.hamt_map.proofs.LeafLists.{first_true, second_true}
use Rattle.hamt_map.proofs.LoadedAgain.{judged_itself}
use Rattle.hamt_map.proofs.MapParts.{entries_again}
use Rattle.hamt_map.proofs.NodeParts.{node_is, nodes_are}

-- the block of a node that has the canonical form is the canonical one
canonical_block : (held : List BlockParts) (below : ℕ) (block : BlockParts) (pairs : Pairs) (pointers : List Value) (bits : List ℕ) (places : ℕ) → block.bytes ≡ spelled (node_of bits pointers) → StandIn held below pairs pointers places
    → digits_of 256 places ≡ bits
    → IsBlock block → block.cid.codec ≡ 0x71 → block.cid.hash ≡ 0xb220 → node_block below (entries (map_of pairs)) ≡ block
canonical_block held below block pairs pointers bits places spells stand field is codec hash =
    let form : node below (entries (map_of pairs)) ≡ node_of bits pointers = node_is below (entries (map_of pairs)) ∙ (λ i. node_of ((ap (digits_of 256) stand.field ∙ field) i) (stand.same i)) in
    let bytes : spelled (node below (entries (map_of pairs))) ≡ block.bytes = ap spelled form ∙ sym spells in
    let digest : digest_under 0xb220 (spelled (node below (entries (map_of pairs)))) ≡ block.cid.digest = ap (digest_under 0xb220) bytes ∙ ap (λ (h : ℕ). digest_under h block.bytes) (sym hash) ∙ is.matches in
    let version = sym is.supported.version in
    λ i. record { cid = record { version = version i; codec = sym codec i; hash = sym hash i; digest = digest i }; bytes = bytes i }

-- the nodes under a node are held, and its own block
all_held : (held : List BlockParts) (below : ℕ) (pairs : Pairs) → AreHeld held (nodes_under below pairs) → found held (node_block below pairs).cid ≡ Some (node_block below pairs) → AreHeld held (nodes below pairs)
all_held held below pairs under own =
    subst (AreHeld held) (sym (nodes_are below pairs))
    (All-append (λ b. found held b.cid ≡ Some b) (nodes_under below pairs) (node_block below pairs ∷ []) under (All-cons (λ b. found held b.cid ≡ Some b) (node_block below pairs) [] own (All-nil (λ b. found held b.cid ≡ Some b))))

canonical_judged : (held : List BlockParts) (below : ℕ) (block : BlockParts) (bits : List ℕ) (places : Option ℕ) (leaves : List (List ℕ × List ℕ)) (m : Map) (read : IsRead held below block bits places leaves m) → IsBlock block
    → has_canonical_form places bits block.cid ≡ true
    → (judged below block (map_of read.pairs) ≡ Ok (map_of read.pairs)) × (length read.pairs ≡ length (entries (map_of read.pairs))) × AreHeld held (nodes below (entries (map_of read.pairs)))
canonical_judged held below block bits places leaves m read is form =
    let names = first_true (eqb block.cid.codec 0x71 && eqb block.cid.hash 0xb220) (is_field places bits) form in
    let codec = eqb-true block.cid.codec 0x71 (first_true (eqb block.cid.codec 0x71) (eqb block.cid.hash 0xb220) names) in
    let hash = eqb-true block.cid.hash 0xb220 (second_true (eqb block.cid.codec 0x71) (eqb block.cid.hash 0xb220) names) in
    by places read.canonical (second_true (eqb block.cid.codec 0x71 && eqb block.cid.hash 0xb220) (is_field places bits) form) codec hash where
      by : (places : Option ℕ) → IfSome places (StandIn held below read.pairs read.pointers) → is_field places bits ≡ true → block.cid.codec ≡ 0x71 → block.cid.hash ≡ 0xb220
          → (judged below block (map_of read.pairs) ≡ Ok (map_of read.pairs)) × (length read.pairs ≡ length (entries (map_of read.pairs))) × AreHeld held (nodes below (entries (map_of read.pairs)))
      by None stand field codec hash = absurd (subst T (sym field) tt)
      by (Some n) stand field codec hash =
          let same = canonical_block held below block read.pairs read.pointers bits n read.bytes stand (same_text (digits_of 256 n) bits (sym field)) is codec hash in (
            subst (λ (b : BlockParts). judged below b (map_of read.pairs) ≡ Ok (map_of read.pairs)) same (judged_itself below (map_of read.pairs)),
            stand.once,
            all_held held below (entries (map_of read.pairs)) stand.nodes (subst (λ (b : BlockParts). found held b.cid ≡ Some b) (sym same) read.first),
          )

pub judged_at_once : (held : List BlockParts) (below : ℕ) (block : BlockParts) (bits : List ℕ) (places : Option ℕ) (start : ℕ) (leaves : List (List ℕ × List ℕ)) (m : Map) → IsRead held below block bits places (drop start leaves) m
    → IsBlock block → has_canonical_form places bits block.cid ≡ true → IsTreePut held below (judged below block m) (take start leaves) leaves true
judged_at_once held below block bits places start leaves m read is form =
    let good = canonical_judged held below block bits places (drop start leaves) m read is form in
    record {
      put = record {
        pairs = read.pairs;
        walk = ap (judged below block) read.map ∙ good.0;
        put = sym (take-append-drop start leaves) ∙ ap (λ xs. take start leaves ++ xs) read.same;
        fit = read.fit;
        once = good.1;
      };
      kept = λ by_form. good.2;
    }

-- the pairs of a map are put
map_put : (walked : Result Map TreeFault) (m : Map) (pairs old new : List (List ℕ × List ℕ)) → walked ≡ Ok m → Holds pairs m → new ≡ old ++ pairs → ArePut walked old new
map_put walked m pairs old new is held put = record {
  pairs = entries m;
  walk = is ∙ ap Ok (sym (entries_again m));
  put = put ∙ ap (λ xs. old ++ xs) held.same;
  fit = held.fit;
  once = ap (λ (n : Map). length (entries n)) (sym (entries_again m));
}

-- so they are where the node was built, and nothing is said of the nodes
pub built_put : (held : List BlockParts) (below : ℕ) (walked : Result Map TreeFault) (m : Map) (pairs old new : List (List ℕ × List ℕ)) → walked ≡ Ok m → Holds pairs m → new ≡ old ++ pairs → IsTreePut held below walked old new false
built_put held below walked m pairs old new is holds put = record { put = map_put walked m pairs old new is holds put; kept = λ by_form. absurd by_form }
