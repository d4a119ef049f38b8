-- IDs as values, and names with them.
use Rattle.std.proofs.Common.{◌≡◌, ℕ, ◌<◌, ◌^◌, List, [], ◌∷◌, Bool, true, false, cond, ◌&&◌, ltb, map, pos, negsuc, Option, Some, None, Ok, Err, refl, sym, ap, subst, ◌∙◌, arith}
use Rattle.std.specs.Prelude.{All, nat_lt}
use Rattle.std.specs.FinMap.{entries, from_entries, get}
use Rattle.std.specs.List.{list_all}
use Rattle.std.specs.Option.{option_map}
use Rattle.std.proofs.lemmas.Bool.Decides.{nat_tests}
use Rattle.std.proofs.lemmas.List.Elements.{All-nil, All-cons, All-head, All-tail}
use Rattle.dag_cbor.specs.declared.value.Value.{Value, Value-F, out-Value, roll-Value, roll-out-Value}
use Rattle.dag_cbor.specs.declared.value.Value.TheVariants as v
use Rattle.dag_cbor.specs.declared.value.Value.TheOpen as layer
use Rattle.cbor_fields.specs.Readers.{u64_layer}
use Rattle.cbor_fields.specs.declared.field_fault.FieldKind.TheVariants.{OutOfRange}
use Rattle.cbor_fields.proofs.ReadBack.{read_number}
use Rattle.hamt_map.specs.Pairs.{Map, Pairs}
use Rattle.hamt_map.specs.StateFaults.{given}
use Rattle.tree_blocks.specs.Forms.{for_each, if_some}
use Rattle.tree_blocks.proofs.ForEach.{if_some_gives}
use Rattle.init_names.specs.Names.{AreNames, IsNamePair, Names, id_pair, is_name, named}
use Rattle.init_names.specs.Reading.{below_limit, id_in, is_below, names_in, pair_in}
use Rattle.init_names.proofs.NamedMaps.{NameList, id_value, entries-named, get-named, id_small, named_back}

-- ---- a value

limit_read : (n : ℕ) → n < 2 ^ 63 → below_limit n ≡ Some n
limit_read n small = let fits : ltb n (2 ^ 63) ≡ true = grind (arith, nat_tests) in rw fits refl

limit_back : (k n : ℕ) → below_limit k ≡ Some n → (k ≡ n) × (n < 2 ^ 63)
limit_back k n is = by_test (ltb k (2 ^ 63)) refl is where
  by_test : (b : Bool) → ltb k (2 ^ 63) ≡ b → cond b (Some k) None ≡ Some n → (k ≡ n) × (n < 2 ^ 63)
  by_test true fits e =
      let same : k ≡ n = cc in
      let small : k < 2 ^ 63 = grind (arith, nat_tests, fits) in
      (same, subst (λ (m : ℕ). m < 2 ^ 63) same small)
  by_test false fits e = absurd (cc)

-- a value of an ID is read as it
pub id_read : (n : ℕ) → n < 2 ^ 63 → id_in (v.Int (pos n)) ≡ Some n
id_read n small = ap (λ r. if_some (given r) below_limit) (read_number n (omega arith)) ∙ limit_read n small

number_back : (k n : ℕ) (b : Bool) → if_some (given (cond b (Ok k) (Err OutOfRange))) below_limit ≡ Some n → (k ≡ n) × (n < 2 ^ 63)
number_back k n true is = limit_back k n is
number_back k n false is = absurd (cc)

layer_back : (l : Value-F Value) (n : ℕ) → if_some (given (u64_layer l)) below_limit ≡ Some n → (l ≡ layer.Int (pos n)) × (n < 2 ^ 63)
layer_back layer.Null n is = absurd (cc)
layer_back (layer.Bool b) n is = absurd (cc)
layer_back (layer.Int (pos k)) n is =
    let back = number_back k n (ltb k (2 ^ 64)) is in
    (ap (λ (m : ℕ). layer.Int (pos m)) back.0, back.1)
layer_back (layer.Int (negsuc k)) n is = absurd (cc)
layer_back (layer.Blob bytes) n is = absurd (cc)
layer_back (layer.Text bytes) n is = absurd (cc)
layer_back (layer.List items) n is = absurd (cc)
layer_back (layer.Map pairs) n is = absurd (cc)
layer_back (layer.Link cid) n is = absurd (cc)

-- what is read as an ID is its value
pub id_back : (x : Value) (n : ℕ) → id_in x ≡ Some n → (x ≡ v.Int (pos n)) × (n < 2 ^ 63)
id_back x n is =
    let back = layer_back (out-Value x) n is in
    (sym (roll-out-Value x) ∙ ap roll-Value back.0 ∙ v.rolls-Int (pos n), back.1)

-- ---- a pair

pair_back : (x : List ℕ × Value) (e : List ℕ × ℕ) → pair_in x ≡ Some e → (x ≡ id_pair e) × IsNamePair e
pair_back x e is = by_test (is_name x.0) refl is where
  by_test : (b : Bool) → is_name x.0 ≡ b → cond b (if_some (id_in x.1) (λ id. Some (x.0, id))) None ≡ Some e → (x ≡ id_pair e) × IsNamePair e
  by_test true name given_e =
      let id = if_some_gives (id_in x.1) (λ id. Some (x.0, id)) e given_e in
      let value = id_back x.1 id.0 id.1 in
      let same : (x.0, id.0) ≡ e = cc id.2 in
      let pair : x ≡ id_pair (x.0, id.0) = λ i. (x.0, value.0 i) in
      subst (λ (f : List ℕ × ℕ). (x ≡ id_pair f) × IsNamePair f) same (pair, (name, value.1))
  by_test false name given_e = absurd (cc given_e)

-- ---- lists of pairs

pairs_back : (xs : Pairs) (es : NameList) → for_each pair_in xs ≡ Some es → (xs ≡ map id_pair es) × All IsNamePair es
pairs_back [] es is = let nothing : [] ≡ es = cc in subst (λ (fs : NameList). ([] ≡ map id_pair fs) × All IsNamePair fs) nothing (refl, All-nil IsNamePair)
pairs_back (x ∷ xs) es is =
    let first = if_some_gives (pair_in x) (λ e. if_some (for_each pair_in xs) (λ fs. Some (e ∷ fs))) es is in
    let rest = if_some_gives (for_each pair_in xs) (λ fs. Some (first.0 ∷ fs)) es first.2 in
    let whole : first.0 ∷ rest.0 ≡ es = cc rest.2 in
    let here = pair_back x first.0 first.1 in
    let behind = pairs_back xs rest.0 rest.1 in
    subst (λ (fs : NameList). (x ∷ xs ≡ map id_pair fs) × All IsNamePair fs) whole
    (λ i. here.0 i ∷ behind.0 i, All-cons IsNamePair first.0 rest.0 here.1 behind.1)

-- the names of a map, where each pair is a name with its ID
pub names_back : (m : Map) (names : Names) → names_in m ≡ Some names → (m ≡ named names) × AreNames names
names_back m names is =
    let es = if_some_gives (for_each pair_in (entries m)) (λ es. Some (from_entries es)) names is in
    let same : from_entries es.0 ≡ names = cc es.2 in
    let back = pairs_back (entries m) es.0 es.1 in
    let map_back = named_back m es.0 back.0 in
    subst (λ (ns : Names). (m ≡ named ns) × AreNames ns) same (map_back.0, subst (All IsNamePair) (sym map_back.1) back.1)

-- ---- reading names

-- the ID of a name, as it is read from the tree
pub id_found : (names : Names) (q : List ℕ) (value : Option Value) → AreNames names → value ≡ get (named names) q → if_some value id_in ≡ get names q
id_found names q value all is = ap (λ (o : Option Value). if_some o id_in) (is ∙ get-named names q) ∙ by_found (get names q) refl where
  by_found : (o : Option ℕ) → get names q ≡ o → if_some (option_map id_value o) id_in ≡ o
  by_found None e = refl
  by_found (Some id) e = id_read id (id_small names q id all e)

below_pairs : (next : ℕ) (es : NameList) → All IsNamePair es → list_all (λ p. is_below next (id_in p.1)) (map id_pair es) ≡ list_all (λ e. nat_lt e.1 next) es
below_pairs next [] all = refl
below_pairs next (e ∷ es) all =
    let here : id_in (v.Int (pos e.1)) ≡ Some e.1 = id_read e.1 (All-head IsNamePair e es all).1 in
    let rest = below_pairs next es (All-tail IsNamePair e es all) in
    λ i. is_below next (here i) && rest i

-- whether all IDs are below the next one, as it is read from the tree
pub below_named : (next : ℕ) (names : Names) → AreNames names → list_all (λ p. is_below next (id_in p.1)) (entries (named names)) ≡ list_all (λ e. nat_lt e.1 next) (entries names)
below_named next names all = ap (list_all (λ p. is_below next (id_in p.1))) (entries-named names) ∙ below_pairs next (entries names) all
