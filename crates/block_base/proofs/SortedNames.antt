-- Names in order make an index.
use Rattle.std.proofs.Common.{◌≡◌, ℕ, ◌+◌, ◌<◌, List, [], ◌∷◌, false, length, get_or, map, sym, ap, subst, ◌∙◌, arith}
use Rattle.std.specs.Prelude.{All}
use Rattle.std.specs.Cmp.Lexicographic.{slice_cmp}
use Rattle.std.specs.List.Sorted.{IsPermutation, IsSorted}
use Rattle.std.specs.Ordering.{is_lt, nat_cmp, ordering_then}
use Rattle.std.specs.declared.cmp.Ordering.{Ordering}
use Rattle.std.proofs.lemmas.List.{get_or-map, length-map}
use Rattle.std.proofs.lemmas.List.Elements.{All-map, All-weaker, Contains-get_or}
use Rattle.std.proofs.lemmas.List.Sorted.{All-permutation, Contains-permutation}
use Rattle.cid_core.specs.BlockParts.{BlockParts}
use Rattle.block_base.specs.Index.{HasPlace, IsEntry, IsIndex, cid_at, is_before, rank_of}
use Rattle.block_base.specs.Names.{AreNames, IsName}
use Rattle.block_base.specs.Order.{rank_cmp}
use Rattle.block_base.specs.declared.index.Entry.{Entry}
use Rattle.block_base.specs.declared.name.Name.{Name}

-- part by part
abbrev pub name_cmp : Name → Name → Ordering
name_cmp n m =
    ordering_then (nat_cmp n.key m.key) (ordering_then (nat_cmp n.version m.version) (ordering_then (nat_cmp n.codec m.codec) (ordering_then (nat_cmp n.hash m.hash) (ordering_then (slice_cmp nat_cmp n.digest.now m.digest.now) (nat_cmp n.place m.place)))))

abbrev pub entry_of : Name → Entry
entry_of n = record { key = n.key; place = n.place }

-- the name of the block at its place
record Here (blocks : List BlockParts) (n : Name) : Type 0 where
  within : n.place < length blocks
  name : IsName n (cid_at blocks n.place) n.place

same_order : (blocks : List BlockParts) (n m : Name) → Here blocks n → Here blocks m → name_cmp n m ≡ rank_cmp (cid_at blocks n.place, n.place) (cid_at blocks m.place, m.place)
same_order blocks n m a b =
    λ i. ordering_then (nat_cmp (a.name.key i) (b.name.key i)) (ordering_then (nat_cmp (a.name.version i) (b.name.version i)) (ordering_then (nat_cmp (a.name.codec i) (b.name.codec i)) (ordering_then (nat_cmp (a.name.hash i) (b.name.hash i)) (ordering_then (slice_cmp nat_cmp (a.name.digest i) (b.name.digest i)) (nat_cmp n.place m.place)))))

all_here : (blocks : List BlockParts) (names : List Name) → AreNames blocks names → All (λ n. Here blocks n) names
all_here blocks names are k d within =
    let is = are.each k d within in
    record { within = omega (arith, is.place, are.size); name = subst (λ p. IsName (get_or names k d) (cid_at blocks p) p) (sym is.place) is }

each_place : (blocks : List BlockParts) (names sorted : List Name) → AreNames blocks names → IsPermutation names sorted → (k : ℕ) → k < length blocks → HasPlace (map entry_of sorted) k
each_place blocks [] sorted are moved k within = absurd (omega (arith, are.size))
each_place blocks (n ∷ names) sorted are moved k within =
    let inside : k < length (n ∷ names) = omega (arith, are.size) in
    let x = get_or (n ∷ names) k n in
    let at = Contains-permutation (n ∷ names) sorted x moved (Contains-get_or (n ∷ names) k n inside) in
    (at.0, omega (arith, length-map sorted entry_of, at.1), λ e. ap (λ y. y.place) (get_or-map entry_of sorted at.0 x e at.1) ∙ (ap (λ y. y.place) at.2 ∙ (are.each k n inside).place))

in_order : (blocks : List BlockParts) (sorted : List Name) → All (λ n. Here blocks n) sorted → IsSorted name_cmp sorted → (k : ℕ) (e : Entry) → k + 1 < length (map entry_of sorted) → is_before blocks (get_or (map entry_of sorted) (k + 1) e) (rank_of blocks (get_or (map entry_of sorted) k e)) ≡ false
in_order blocks [] here up k e within = absurd (omega arith)
in_order blocks (n ∷ names) here up k e within =
    let size = length-map (n ∷ names) entry_of in
    let next : k + 1 < length (n ∷ names) = omega (arith, size) in
    let this : k < length (n ∷ names) = omega arith in
    let a = get_or (n ∷ names) (k + 1) n in
    let b = get_or (n ∷ names) k n in
    (λ i. is_before blocks (get_or-map entry_of (n ∷ names) (k + 1) n e next i) (rank_of blocks (get_or-map entry_of (n ∷ names) k n e this i))) ∙ (sym (ap is_lt (same_order blocks a b (here (k + 1) n next) (here k n this))) ∙ up k n (omega arith) next)

pub index_from_names : (blocks : List BlockParts) (names sorted : List Name) (entries : List Entry) → AreNames blocks names → IsPermutation names sorted → IsSorted name_cmp sorted → entries ≡ map entry_of sorted → IsIndex blocks entries
index_from_names blocks names sorted entries are moved up same =
    let here = All-permutation (λ n. Here blocks n) names sorted moved (all_here blocks names are) in
    subst (λ es. IsIndex blocks es) (sym same) record {
      places = All-map (λ e. IsEntry blocks e) entry_of sorted (All-weaker (λ n. Here blocks n) (λ n. IsEntry blocks (entry_of n)) (λ n is. record { within = is.within; key = is.name.key }) sorted here);
      every = each_place blocks names sorted are moved;
      ordered = λ k e low within. in_order blocks sorted here up k e within;
    }
