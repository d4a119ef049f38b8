-- The map of pairs, of which the first at a key counts.
use Rattle.std.proofs.Common.{◌≡◌, ℕ, cond, eqb, List, [], ◌∷◌, ◌++◌, ◌&&◌, Option, None, refl, sym, ap, ◌∙◌}
use Rattle.std.specs.Prelude.{T}
use Rattle.std.specs.Cmp.Lexicographic.{nat_list_cmp_total}
use Rattle.std.specs.FinMap as finmap
use Rattle.std.specs.FinMap.{entries}
use Rattle.std.specs.FinMap.Entries.{below_all, find, is_sorted, same_entries}
use Rattle.std.specs.Ordering.{is_lt}
use Rattle.dag_cbor.specs.declared.value.Value.{Value}
use Rattle.hamt_map.specs.Canonical.{map_of}
use Rattle.hamt_map.specs.Holds.{spellings}
use Rattle.hamt_map.specs.Pairs.{Map, Pairs, at_place, key_cmp, place_on}
use Rattle.hamt_map.proofs.Held.{key_cmp_same}
use Rattle.hamt_map.proofs.Merging.{or_else, find_both}
use Rattle.hamt_map.proofs.PlacedPairs.{find_at_place, sorted_at}

pub find_in_map : (pairs : Pairs) (q : List ℕ) → find key_cmp q (entries (map_of pairs)) ≡ find key_cmp q pairs
find_in_map pairs q = sym (finmap.get-entries (map_of pairs) q) ∙ finmap.get-from_entries nat_list_cmp_total pairs q

found_alike : (a b : Pairs) → map_of a ≡ map_of b → (q : List ℕ) → find key_cmp q a ≡ find key_cmp q b
found_alike a b same q = sym (find_in_map a q) ∙ ap (λ (m : Map). find key_cmp q (entries m)) same ∙ find_in_map b q

-- the map of two lists is that of their maps
pub both_maps : (a b c d : Pairs) → map_of a ≡ map_of c → map_of b ≡ map_of d → map_of (a ++ b) ≡ map_of (c ++ d)
both_maps a b c d ac bd = finmap.same_map nat_list_cmp_total key_cmp_same (map_of (a ++ b)) (map_of (c ++ d)) (λ q.
    finmap.get-from_entries nat_list_cmp_total (a ++ b) q ∙ find_both q a b
    ∙ (λ i. or_else (found_alike a c ac q i) (found_alike b d bd q i))
    ∙ sym (finmap.get-from_entries nat_list_cmp_total (c ++ d) q ∙ find_both q c d))

-- the pairs of a map are its own
pub entries_again : (m : Map) → map_of (entries m) ≡ m
entries_again m = finmap.same_map nat_list_cmp_total key_cmp_same (map_of (entries m)) m (λ q. finmap.get-from_entries nat_list_cmp_total (entries m) q ∙ sym (finmap.get-entries m q))

-- pairs whose keys rise are those of their map
pub sorted_again : (pairs : Pairs) → T (is_sorted key_cmp pairs) → entries (map_of pairs) ≡ pairs
sorted_again pairs sorted = same_entries key_cmp nat_list_cmp_total key_cmp_same (entries (map_of pairs)) pairs (finmap.entries_sorted (map_of pairs)) sorted (find_in_map pairs)

-- the pairs of a map at a place are the map of those at the place
pub at_place_map : (level place : ℕ) (pairs : Pairs) → at_place level place (entries (map_of pairs)) ≡ entries (map_of (at_place level place pairs))
at_place_map level place pairs = same_entries key_cmp nat_list_cmp_total key_cmp_same (at_place level place (entries (map_of pairs))) (entries (map_of (at_place level place pairs)))
    (sorted_at level place (map_of pairs)) (finmap.entries_sorted (map_of (at_place level place pairs))) (λ q.
    find_at_place level place (entries (map_of pairs)) q
    ∙ ap (λ (o : Option Value). cond (eqb (place_on level q) place) o None) (find_in_map pairs q)
    ∙ sym (find_in_map (at_place level place pairs) q ∙ find_at_place level place pairs q))

-- keys with spellings rise as the keys do
below_spelled : (x : List ℕ) (pairs : Pairs) → below_all key_cmp x (spellings pairs) ≡ below_all key_cmp x pairs
below_spelled x [] = refl
below_spelled x (p ∷ pairs) = ap (λ b. is_lt (key_cmp x p.0) && b) (below_spelled x pairs)

pub sorted_spelled : (pairs : Pairs) → is_sorted key_cmp (spellings pairs) ≡ is_sorted key_cmp pairs
sorted_spelled [] = refl
sorted_spelled (p ∷ pairs) = λ i. below_spelled p.0 pairs i && sorted_spelled pairs i
