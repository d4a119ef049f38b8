-- Names with their IDs fit into a tree, and are read as these names.
use Rattle.std.proofs.Common.{◌≡◌, ℕ, suc, ◌<◌, ◌^◌, ◌⊎◌, List, [], ◌∷◌, Bool, true, false, ◌&&◌, ◌||◌, get_or, length, map, pos, Option, Some, All, inl, inr, refl, sym, ap, subst, ◌∙◌, arith}
use Rattle.std.specs.Prelude.{◌==◌}
use Rattle.std.proofs.lemmas.Bool.{eqb-true}
use Rattle.std.proofs.lemmas.List.{length-map}
use Rattle.std.proofs.lemmas.List.Elements.{All-head, All-map, All-tail}
use Rattle.std.specs.Cmp.Lexicographic.{nat_list_cmp_total}
use Rattle.std.specs.FinMap as finmap
use Rattle.std.specs.FinMap.{entries, from_entries}
use Rattle.dag_cbor.specs.Plain.{IsPlain}
use Rattle.dag_cbor.specs.declared.value.Value.TheVariants as v
use Rattle.dag_cbor.proofs.Equations.{IsPlain-pos}
use Rattle.tree_blocks.specs.Forms.{for_each, if_some}
use Rattle.hamt_map.specs.Pairs.{Pairs}
use Rattle.hamt_map.proofs.FitNode.{Fits}
use Rattle.hamt_map.proofs.Held.{key_cmp_same}
use Rattle.init_names.specs.Names.{AreNames, IsNamePair, Names, id_pair, is_name, named}
use Rattle.init_names.specs.Reading.{names_in, pair_in}
use Rattle.init_names.proofs.IdValues.{id_read}
use Rattle.init_names.proofs.NamedMaps.{NameList, entries-named}

-- ---- one pair

one_of : (p q a b : Bool) → ((p && a) || (q && b)) ≡ true → (a ≡ true) ⊎ (b ≡ true)
one_of p q true b is = inl refl
one_of p q false true is = inr refl
one_of true true false false is = inl is
one_of true false false false is = inl is
one_of false true false false is = inl is
one_of false false false false is = inl is

short_name : (name : List ℕ) → is_name name ≡ true → length name < 2 ^ 64
short_name [] is = omega arith
short_name (protocol ∷ payload) is =
    elim (one_of (protocol == 1 || protocol == 2) (protocol == 3) (length payload == 20) (length payload == 48) is) [
      | inl short ↦ let size = eqb-true (length payload) 20 short in omega (arith, size)
      | inr long ↦ let size = eqb-true (length payload) 48 long in omega (arith, size)
    ]

plain_number : (d n : ℕ) → n < 2 ^ 64 → IsPlain (suc d) (v.Int (pos n))
plain_number d n small = subst (λ (P : Type 0). P) (sym (IsPlain-pos d n)) small

-- ---- the names of a tree

pub names_fit : (names : Names) → AreNames names → length (entries names) < 2 ^ 64 → Fits (entries (named names))
names_fit names are few = subst Fits (sym (entries-named names)) (record {
  values = All-map (λ p. IsPlain 124 p.1) id_pair (entries names) (λ k d within. plain_number 123 (get_or (entries names) k d).1 (let small = (are k d within).1 in omega (arith, small)));
  keys = All-map (λ p. length p.0 < 2 ^ 64) id_pair (entries names) (λ k d within. short_name (get_or (entries names) k d).0 (are k d within).0);
  count = omega (arith, length-map (entries names) id_pair, few);
})

each_read : (es : NameList) → All IsNamePair es → for_each pair_in (map id_pair es) ≡ Some es
each_read [] are = refl
each_read (e ∷ es) are =
    let here : IsNamePair e = All-head IsNamePair e es are in
    rw (here.0, id_read e.1 here.1, each_read es (All-tail IsNamePair e es are)) refl

same_names : (names : Names) → from_entries (entries names) ≡ names
same_names names =
    finmap.same_map nat_list_cmp_total key_cmp_same (from_entries (entries names)) names (λ q. finmap.get-from_entries nat_list_cmp_total (entries names) q ∙ sym (finmap.get-entries names q))

pub names_read : (names : Names) → AreNames names → names_in (named names) ≡ Some names
names_read names are =
    ap (λ (ps : Pairs). if_some (for_each pair_in ps) (λ es. Some (from_entries es))) (entries-named names)
    ∙ ap (λ (o : Option NameList). if_some o (λ es. Some (from_entries es))) (each_read (entries names) are)
    ∙ ap Some (same_names names)
