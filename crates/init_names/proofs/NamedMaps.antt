-- Names as the map that their tree holds.
use Rattle.std.proofs.Common.{◌≡◌, ℕ, ◌<◌, ◌^◌, List, [], ◌∷◌, Bool, true, false, cond, ◌&&◌, map, pos, Option, Some, refl, sym, ap, subst, ◌∙◌}
use Rattle.std.specs.Prelude.{T, All, is_some}
use Rattle.std.specs.Cmp.Lexicographic.{nat_list_cmp_total}
use Rattle.std.specs.FinMap as finmap
use Rattle.std.specs.FinMap.{empty, entries, from_entries, get, insert}
use Rattle.std.specs.FinMap.Entries.{below_all, by_order, find, is_sorted, put}
use Rattle.std.specs.Option.{option_map}
use Rattle.std.specs.Ordering.{eq_by_cmp, is_lt}
use Rattle.std.specs.declared.cmp.Ordering.TheVariants.{Less, Equal, Greater}
use Rattle.std.proofs.lemmas.List.Elements.{All-nil, All-cons, All-head, All-tail}
use Rattle.dag_cbor.specs.declared.value.Value.{Value}
use Rattle.dag_cbor.specs.declared.value.Value.TheVariants as v
use Rattle.hamt_map.specs.Pairs.{Map, key_cmp}
use Rattle.hamt_map.proofs.Held.{key_cmp_same}
use Rattle.init_names.specs.Names.{AreNames, IsNamePair, Names, id_pair, is_name, named}

-- IDs by names
abbrev pub NameList : Type 0
NameList = List (List ℕ × ℕ)

-- an ID as a value
abbrev pub id_value : ℕ → Value
id_value id = v.Int (pos id)

-- ---- lists of names with their IDs

below_pairs : (k : List ℕ) (es : NameList) → below_all key_cmp k (map id_pair es) ≡ below_all key_cmp k es
below_pairs k [] = refl
below_pairs k (e ∷ es) = ap (λ b. is_lt (key_cmp k e.0) && b) (below_pairs k es)

sorted_pairs : (es : NameList) → is_sorted key_cmp (map id_pair es) ≡ is_sorted key_cmp es
sorted_pairs [] = refl
sorted_pairs (e ∷ es) = λ i. below_pairs e.0 es i && sorted_pairs es i

cond_map : {X Y : Type 0} (f : X → Y) (b : Bool) (x : X) (o : Option X) (p : Option Y) → p ≡ option_map f o → cond b (Some (f x)) p ≡ option_map f (cond b (Some x) o)
cond_map f true x o p is = refl
cond_map f false x o p is = is

find_pairs : (q : List ℕ) (es : NameList) → find key_cmp q (map id_pair es) ≡ option_map id_value (find key_cmp q es)
find_pairs q [] = refl
find_pairs q (e ∷ es) = cond_map id_value (eq_by_cmp key_cmp q e.0) e.1 (find key_cmp q es) _ (find_pairs q es)

-- ---- maps

-- the entries of the map of a list whose keys rise
pub entries_back : {X : Type 0} (es : List (List ℕ × X)) → T (is_sorted key_cmp es) → entries (from_entries {R = key_cmp} es) ≡ es
entries_back es rise =
    ap entries (finmap.same_map nat_list_cmp_total key_cmp_same (from_entries es) (finmap.from_sorted es) (λ q. finmap.get-from_entries nat_list_cmp_total es q ∙ sym (finmap.get-from_sorted key_cmp es q rise)))
    ∙ finmap.entries-from_sorted key_cmp es rise

pub entries-named : (names : Names) → entries (named names) ≡ map id_pair (entries names)
entries-named names = entries_back (map id_pair (entries names)) (subst T (sym (sorted_pairs (entries names))) (finmap.entries_sorted names))

pub get-named : (names : Names) (q : List ℕ) → get (named names) q ≡ option_map id_value (get names q)
get-named names q =
    finmap.get-from_entries nat_list_cmp_total (map id_pair (entries names)) q ∙ find_pairs q (entries names) ∙ ap (option_map id_value) (sym (finmap.get-entries names q))

pub named-insert : (names : Names) (k : List ℕ) (id : ℕ) → named (insert names k id) ≡ insert (named names) k (id_value id)
named-insert names k id = finmap.same_map nat_list_cmp_total key_cmp_same _ _ (λ q.
    get-named (insert names k id) q ∙ ap (option_map id_value) (finmap.get-insert nat_list_cmp_total names k id q)
    ∙ sym (cond_map id_value (eq_by_cmp key_cmp q k) id (get names q) (get (named names) q) (get-named names q))
    ∙ sym (finmap.get-insert nat_list_cmp_total (named names) k (id_value id) q))

-- of what is given the names of a tree, it is the map of those names
pub named_back : (m : Map) (es : NameList) → entries m ≡ map id_pair es → (m ≡ named (from_entries es)) × (entries (from_entries {R = key_cmp} es) ≡ es)
named_back m es is =
    let rise : T (is_sorted key_cmp es) = subst T (ap (is_sorted key_cmp) is ∙ sorted_pairs es) (finmap.entries_sorted m) in
    let back : entries (from_entries {R = key_cmp} es) ≡ es = entries_back es rise in
    (finmap.same_entries_map m (named (from_entries es)) (is ∙ ap (map id_pair) (sym back) ∙ sym (entries-named (from_entries es))), back)

pub named-empty : named empty ≡ empty
named-empty = finmap.same_map nat_list_cmp_total key_cmp_same _ _ (λ q. get-named empty q ∙ ap (option_map id_value) (finmap.get-empty key_cmp q) ∙ sym (finmap.get-empty key_cmp q))

-- ---- what holds of names

no_entries : entries (empty {K = List ℕ} {X = ℕ} {R = key_cmp}) ≡ []
no_entries = ap entries (finmap.same_map nat_list_cmp_total key_cmp_same empty (finmap.from_sorted []) (λ q. finmap.get-empty key_cmp q ∙ sym (finmap.get-from_sorted key_cmp [] q tt))) ∙ finmap.entries-from_sorted key_cmp [] tt

pub AreNames-empty : AreNames empty
AreNames-empty = subst (All IsNamePair) (sym no_entries) (All-nil IsNamePair)

All-put : (k : List ℕ) (id : ℕ) (es : NameList) → is_name k ≡ true → id < 2 ^ 63 → All IsNamePair es → All IsNamePair (put key_cmp k id es)
All-put k id [] name small all = All-cons IsNamePair (k, id) [] (name, small) all
All-put k id (e ∷ es) name small all =
    let here = All-head IsNamePair e es all in
    let rest = All-tail IsNamePair e es all in
    elim (key_cmp k e.0) as (λ o. All IsNamePair (by_order o ((k, id) ∷ e ∷ es) ((e.0, id) ∷ es) (e ∷ put key_cmp k id es))) [
      | Less ↦ All-cons IsNamePair (k, id) (e ∷ es) (name, small) all
      | Equal ↦ All-cons IsNamePair (e.0, id) es (here.0, small) rest
      | Greater ↦ All-cons IsNamePair e (put key_cmp k id es) here (All-put k id es name small rest)
    ]

pub AreNames-insert : (names : Names) (k : List ℕ) (id : ℕ) → AreNames names → is_name k ≡ true → id < 2 ^ 63 → AreNames (insert names k id)
AreNames-insert names k id all name small =
    subst (All IsNamePair) (sym (finmap.entries-insert nat_list_cmp_total names k id)) (All-put k id (entries names) name small all)

found_small : (q : List ℕ) (es : NameList) (id : ℕ) → All IsNamePair es → find key_cmp q es ≡ Some id → id < 2 ^ 63
found_small q [] id all found = absurd (subst T (ap is_some (sym found)) tt)
found_small q (e ∷ es) id all found =
    elim (eq_by_cmp key_cmp q e.0) as (λ b. cond b (Some e.1) (find key_cmp q es) ≡ Some id → id < 2 ^ 63) [
      | true ↦ λ is. let same : e.1 ≡ id = cc in subst (λ (n : ℕ). n < 2 ^ 63) same (All-head IsNamePair e es all).1
      | false ↦ λ is. found_small q es id (All-tail IsNamePair e es all) is
    ] found

-- the ID of a name
pub id_small : (names : Names) (q : List ℕ) (id : ℕ) → AreNames names → get names q ≡ Some id → id < 2 ^ 63
id_small names q id all found = found_small q (entries names) id all (sym (finmap.get-entries names q) ∙ found)
