-- What is found of a key below a canonical node.
use Rattle.std.proofs.Common.{◌≡◌, ◌≢◌, ℕ, zero, suc, ◌+◌, ◌-◌, ◌*◌, ◌/◌, ◌%◌, ◌^◌, ◌<◌, Bool, true, false, cond, eqb, List, [], ◌∷◌, ◌++◌, length, drop, drop-cons, get_or, Option, Some, None, All, refl, sym, ap, subst, ◌∙◌, arith}
use Rattle.std.proofs.lemmas.Bool.{false_from_ne_true, false≢true}
use Rattle.std.proofs.lemmas.Cmp.{eq_by_cmp_equiv, nat_list_cmp_total}
use Rattle.std.proofs.lemmas.List.Elements.{All-filter, All-head}
use Rattle.std.specs.Cmp.Lexicographic.{bytes_decides, pointwise}
use Rattle.std.specs.FinMap.Entries.{find}
use Rattle.std.specs.Int.Digits.{number_from_digits}
use Rattle.std.specs.List.{flat_map}
use Rattle.std.specs.Option.{option_map}
use Rattle.std.specs.Ordering.{eq_by_cmp}
use Rattle.std.specs.Prelude.{nat_eq}
use Rattle.sha2.specs.Sha256.{sha256}
use Rattle.fil_base.specs.CidParts.{CidParts}
use Rattle.cid_core.specs.BlockParts.{BlockParts, found}
use Rattle.dag_cbor.specs.Plain.{IsPlain}
use Rattle.dag_cbor.specs.Spelling.{spelled}
use Rattle.dag_cbor.specs.declared.value.Value.{Value}
use Rattle.dag_cbor.specs.declared.value.Value.TheVariants as v
use Rattle.hamt_map.specs.Ahead.{AreAhead, PairsAhead, pointer_text}
use Rattle.hamt_map.specs.Groups.{by_place, is_group, nodes_of, nodes_under, pointer_to}
use Rattle.hamt_map.specs.Holds.{FitNodes}
use Rattle.hamt_map.specs.Kept.{AreHeld}
use Rattle.hamt_map.specs.Node.{bucket, is_small, node, node_block, nodes}
use Rattle.hamt_map.specs.Pairs.{Pairs, at_place, key_cmp, place_on}
use Rattle.hamt_map.proofs.Grouping.{group_at}
use Rattle.hamt_map.proofs.Held.{key_cmp_same, tied_from}
use Rattle.hamt_map.proofs.Merging.{all_back, all_front}
use Rattle.hamt_map.proofs.NodeParts.{nodes_are, some_test}
use Rattle.hamt_map.proofs.PlacedPairs.{find_at_place}
use Rattle.hamt_map.proofs.ReadAgain.{same_test}

-- a block is held
abbrev pub IsHeld : List BlockParts → BlockParts → Type 0
IsHeld held b = found held b.cid ≡ Some b

-- ---- the block of a node

under_and_own : (held : List BlockParts) (below : ℕ) (ps : Pairs) → AreHeld held (nodes below ps) → AreHeld held (nodes_under below ps ++ (node_block below ps ∷ []))
under_and_own held below ps all = subst (AreHeld held) (nodes_are below ps) all

pub block_is : (held : List BlockParts) (below : ℕ) (ps : Pairs) (cid : CidParts) (block : BlockParts) → Some block ≡ found held cid → cid ≡ (node_block below ps).cid → AreHeld held (nodes below ps) → block ≡ node_block below ps
block_is held below ps cid block there is all =
    let own : found held (node_block below ps).cid ≡ Some (node_block below ps) =
    All-head (IsHeld held) (node_block below ps) [] (all_back (IsHeld held) (nodes_under below ps) (node_block below ps ∷ []) (under_and_own held below ps all)) in
    let same : ◌≡◌ {A = Option BlockParts} (Some block) (Some (node_block below ps)) = there ∙ ap (found held) is ∙ own in
    cc same

-- ---- the group of a place

one_of : {X A : Type 0} (P : A → Type 0) (f : X → List A) (xs : List X) (i : ℕ) (d : X) → i < length xs → All P (flat_map f xs) → All P (f (get_or xs i d))
one_of P f [] i d within all = absurd (omega (arith, within))
one_of P f (x ∷ xs) zero d within all = all_front P (f x) (flat_map f xs) all
one_of P f (x ∷ xs) (suc i) d within all = one_of P f xs i d (omega (arith, within)) (all_back P (f x) (flat_map f xs) all)

pub group_held : (held : List BlockParts) (below place : ℕ) (ps : Pairs) → place < 32 → AreHeld held (nodes below ps) → AreHeld held (nodes_of below (at_place (51 - below) place ps))
unfolding nodes_under
group_held held below place ps small all =
    subst (λ (g : Pairs). AreHeld held (nodes_of below g)) (group_at (51 - below) place ps [] small)
    (one_of (IsHeld held) (nodes_of below) (by_place (51 - below) ps) place [] small (all_front (IsHeld held) (nodes_under below ps) (node_block below ps ∷ []) (under_and_own held below ps all)))

pub group_fit : (level place : ℕ) (ps : Pairs) → FitNodes ps → FitNodes (at_place level place ps)
group_fit level place ps fit = All-filter _ (λ p. IsPlain 124 p.1) ps fit

-- the place of a key
pub place_is : (below place : ℕ) (hash key : List ℕ) → hash ≡ sha256 key → place ≡ number_from_digits 256 hash / 2 ^ (256 - 5 * (51 - below)) % 32 → place ≡ place_on (51 - below) key
place_is below place hash key is there = there ∙ ap (λ (h : List ℕ). number_from_digits 256 h / 2 ^ (256 - 5 * (51 - below)) % 32) is

-- a key is found among the pairs at its place
pub found_at : (level place : ℕ) (ps : Pairs) (key : List ℕ) → place ≡ place_on level key → find key_cmp key (at_place level place ps) ≡ find key_cmp key ps
found_at level place ps key there =
    find_at_place level place ps key ∙ ap (λ b. cond b (find key_cmp key ps) None) (ap (eqb (place_on level key)) there ∙ same_test (place_on level key))

none_of : (key : List ℕ) (group : Pairs) (text : List ℕ) → None ≡ cond (is_group group) (Some text) None → find key_cmp key group ≡ None
none_of key [] text e = refl
none_of key (p ∷ group) text e =
    let some : None ≡ Some text = e ∙ ap (λ b. cond b (Some text) None) (some_test (length (p ∷ group)) (omega arith)) in
    absurd (cc some)

pub no_pair : (below : ℕ) (group : Pairs) (key : List ℕ) → None ≡ pointer_text below group → find key_cmp key group ≡ None
no_pair below group key e = none_of key group (spelled (pointer_to below group)) e

text_of : (test : Bool) (pointer text : List ℕ) → Some pointer ≡ cond test (Some text) None → pointer ≡ text
text_of true pointer text e = cc e
text_of false pointer text e = absurd (cc e)

pub pointer_is : (below : ℕ) (group : Pairs) (pointer : List ℕ) → Some pointer ≡ pointer_text below group → pointer ≡ spelled (pointer_to below group)
pointer_is below group pointer e = text_of (is_group group) pointer (spelled (pointer_to below group)) e

-- ---- the pointer to it

pub bucket_is : (below : ℕ) (group : Pairs) (pointer : List ℕ) → pointer ≡ spelled (pointer_to below group) → ((cid : CidParts) → pointer ≡ spelled (v.Link cid) → false ≡ true) → pointer ≡ spelled (bucket group)
unfolding pointer_to
bucket_is zero group pointer is none = is
bucket_is (suc below) group pointer is none =
    elim (is_small group) as (λ b. pointer ≡ spelled (cond b (bucket group) (v.Link (node_block below group).cid)) → pointer ≡ spelled (bucket group)) [
      | true ↦ λ is. is
      | false ↦ λ is. absurd (cc (none (node_block below group).cid is))
    ] is

-- a group has a node
pub record HasNode (held : List BlockParts) (below : ℕ) (group : Pairs) (pointer : List ℕ) : Type 0 where
  pub under : 0 < below
  pub link : pointer ≡ spelled (v.Link (node_block (below - 1) group).cid)
  pub all : AreHeld held (nodes (below - 1) group)

pub node_is_there : (held : List BlockParts) (below : ℕ) (group : Pairs) (pointer : List ℕ) → pointer ≡ spelled (pointer_to below group) → ((ps : Pairs) → pointer ≡ spelled (bucket ps) → true ≡ false)
    → AreHeld held (nodes_of below group) → HasNode held below group pointer
unfolding pointer_to nodes_of
node_is_there held zero group pointer is none all = absurd (cc (none group is))
node_is_there held (suc below) group pointer is none all =
    let same : below ≡ suc below - 1 = omega arith in
    elim (is_small group) as (λ b. pointer ≡ spelled (cond b (bucket group) (v.Link (node_block below group).cid)) → AreHeld held (cond b [] (nodes below group)) → HasNode held (suc below) group pointer) [
      | true ↦ λ is all. absurd (cc (none group is))
      | false ↦ λ is all. record {
        under = omega arith;
        link = is ∙ ap (λ (k : ℕ). spelled (v.Link (node_block k group).cid)) same;
        all = subst (λ (k : ℕ). AreHeld held (nodes k group)) same all;
      }
    ] is all

-- ---- the places of a node

pub next_place : (below i : ℕ) (ps : Pairs) (bits : ℕ) (bytes : List ℕ) → i < 32 → AreAhead below (drop i (by_place (51 - below) ps)) bits bytes
    → AreAhead below (at_place (51 - below) i ps ∷ drop (i + 1) (by_place (51 - below) ps)) bits bytes
next_place below i ps bits bytes small ahead =
    let groups : List Pairs = by_place (51 - below) ps in
    let one : suc i ≡ i + 1 = omega arith in
    subst (λ (gs : List Pairs). AreAhead below gs bits bytes) (drop-cons groups i [] small ∙ (λ j. group_at (51 - below) i ps [] small j ∷ drop (one j) groups)) ahead

-- ---- the pairs of a bucket

-- the pairs that were not compared yet
pub record Uncompared (ps : Pairs) (key : List ℕ) (left : ℕ) (bytes : List ℕ) : Type 0 where
  pub pairs : Pairs
  pub count : length pairs ≡ left
  pub ahead : PairsAhead pairs bytes
  pub same : find key_cmp key pairs ≡ find key_cmp key ps

pub uncompared_begin : (ps : Pairs) (key : List ℕ) (left : ℕ) (bytes : List ℕ) → left ≡ length ps → PairsAhead ps bytes → Uncompared ps key left bytes
uncompared_begin ps key left bytes many ahead = record { pairs = ps; count = sym many; ahead = ahead; same = refl }

-- what was read of the first of them
pub record FirstOf (ps : Pairs) (key : List ℕ) (left : ℕ) (bytes own spelling behind : List ℕ) : Type 0 where
  pub value : Value
  pub pairs : Pairs
  pub count : length pairs ≡ left
  pub spelling_is : spelling ≡ spelled value
  pub ahead : PairsAhead pairs behind
  pub same : find key_cmp key ((own, value) ∷ pairs) ≡ find key_cmp key ps

pub first_read : (ps : Pairs) (key : List ℕ) (left : ℕ) (bytes own spelling behind : List ℕ) → 0 < left → Uncompared ps key left bytes
    → ((p : List ℕ × Value) (more : Pairs) → PairsAhead (p ∷ more) bytes → (own ≡ p.0) × (spelling ≡ spelled p.1) × PairsAhead more behind) → FirstOf ps key (left - 1) bytes own spelling behind
first_read ps key left bytes own spelling behind some so_far read = by so_far.pairs so_far.count so_far.ahead so_far.same where
  by : (pairs : Pairs) → length pairs ≡ left → PairsAhead pairs bytes → find key_cmp key pairs ≡ find key_cmp key ps → FirstOf ps key (left - 1) bytes own spelling behind
  by [] count ahead same = absurd (omega (arith, count, some))
  by (p ∷ pairs) count ahead same =
      let front = read p pairs ahead in
      record {
        value = p.1;
        pairs = pairs;
        count = omega (arith, count);
        spelling_is = front.1;
        ahead = front.2;
        same = ap (λ (k : List ℕ). find key_cmp key ((k, p.1) ∷ pairs)) front.0 ∙ same;
      }

-- its key is the one that is looked for
pub first_found : (ps : Pairs) (key : List ℕ) (left : ℕ) (bytes own spelling behind : List ℕ) → FirstOf ps key left bytes own spelling behind → own ≡ key → Some spelling ≡ option_map spelled (find key_cmp key ps)
first_found ps key left bytes own spelling behind first is =
    ap Some first.spelling_is
    ∙ ap (option_map spelled) (ap (λ b. cond b (Some first.value) (find key_cmp key first.pairs)) (sym (ap (eq_by_cmp key_cmp key) is ∙ (eq_by_cmp_equiv nat_list_cmp_total).refl key)) ∙ first.same)

-- what a test of two keys has told
pub other_text : (own key : List ℕ) → false ≡ pointwise nat_eq own key → own ≢ key
other_text own key other is = false≢true (other ∙ (bytes_decides own key).1 is)

differs : (key own : List ℕ) → own ≢ key → eq_by_cmp key_cmp key own ≡ false
differs key own apart = false_from_ne_true (eq_by_cmp key_cmp key own) (λ tied. apart (sym (key_cmp_same key own (tied_from _ tied))))

-- it is another
pub first_other : (ps : Pairs) (key : List ℕ) (left : ℕ) (bytes own spelling behind : List ℕ) → FirstOf ps key left bytes own spelling behind → own ≢ key → Uncompared ps key left behind
first_other ps key left bytes own spelling behind first apart = record {
  pairs = first.pairs;
  count = first.count;
  ahead = first.ahead;
  same = ap (λ b. cond b (Some first.value) (find key_cmp key first.pairs)) (sym (differs key own apart)) ∙ first.same;
}

pub uncompared_end : (ps : Pairs) (key : List ℕ) (left : ℕ) (bytes : List ℕ) → left ≡ 0 → Uncompared ps key left bytes → None ≡ option_map spelled (find key_cmp key ps)
uncompared_end ps key left bytes none so_far = by so_far.pairs so_far.count so_far.same where
  by : (pairs : Pairs) → length pairs ≡ left → find key_cmp key pairs ≡ find key_cmp key ps → None ≡ option_map spelled (find key_cmp key ps)
  by [] count same = ap (option_map spelled) same
  by (p ∷ pairs) count same = absurd (omega (arith, count, none))
