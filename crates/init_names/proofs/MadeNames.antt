-- The names of a list of addresses with their IDs.
use Rattle.std.proofs.Common.{◌≡◌, ℕ, zero, suc, ◌+◌, ◌<◌, ◌^◌, List, [], ◌∷◌, ◌++◌, true, false, cond, length, map, take, get_or, Some, None, refl, sym, ap, subst, ◌∙◌, inl, inr, arith}
use Rattle.std.specs.Prelude.{bytes_eq}
use Rattle.std.specs.Cmp.Lexicographic.{bytes_decides, nat_list_cmp_total}
use Rattle.std.specs.FinMap as finmap
use Rattle.std.specs.FinMap.{from_entries, insert}
use Rattle.std.specs.FinMap.Entries.{find}
use Rattle.std.specs.List.{AllByRecursion, IsDistinct}
use Rattle.std.specs.Ordering.{eq_by_cmp}
use Rattle.std.proofs.lemmas.Bool.{cases_Bool, false≢true}
use Rattle.std.proofs.lemmas.List.{take_more, map_push}
use Rattle.fil_address.specs.AddressBytes.{address}
use Rattle.fil_address.specs.declared.address.Address.{Address}
use Rattle.cid_core.specs.BlockParts.{BlockParts}
use Rattle.dag_cbor.specs.Plain.{IsText}
use Rattle.hamt_map.specs.Stands as hamt
use Rattle.hamt_map.specs.Pairs.{key_cmp}
use Rattle.hamt_map.proofs.Held.{key_cmp_same, tied_from}
use Rattle.init_names.specs.Names.{AreNames, InitState, IsInitState, named, names_of, is_name, with_name}
use Rattle.init_names.specs.Stands.{Stands}
use Rattle.init_names.specs.declared.names.Names.{Names as KeptNames}
use Rattle.init_names.proofs.NamedMaps.{NameList, AreNames-insert}

-- ---- lists of addresses

abbrev Given : Type 0
Given = List (Address × ℕ)

abbrev name_pair : Address × ℕ → List ℕ × ℕ
name_pair n = (address n.0, n.1)

other_key : (k x : List ℕ) → bytes_eq x k ≡ false → eq_by_cmp key_cmp k x ≡ false
other_key k x other = elim (cases_Bool (eq_by_cmp key_cmp k x)) [
  | inl tied ↦
      let same : k ≡ x = key_cmp_same k x (tied_from _ tied) in
      absurd (false≢true (sym other ∙ (bytes_decides x k).1 (sym same)))
  | inr apart ↦ apart
]

other_at : (P : List ℕ → Type 0) (ns : Given) (i : ℕ) (d : Address × ℕ) → i < length ns → AllByRecursion P (map (λ n. address n.0) ns) → P (address (get_or ns i d).0)
other_at P [] i d lt all = absurd (omega arith)
other_at P (n ∷ ns) zero d lt all = all.0
other_at P (n ∷ ns) (suc i) d lt all = other_at P ns i d (omega arith) all.1

-- an address is not among those before it
not_before : (ns : Given) (i : ℕ) (d : Address × ℕ) → i < length ns → IsDistinct bytes_eq (map (λ n. address n.0) ns) → find key_cmp (address (get_or ns i d).0) (map name_pair (take i ns)) ≡ None
unfolding IsDistinct
not_before [] i d lt distinct = absurd (omega arith)
not_before (n ∷ ns) zero d lt distinct = refl
not_before (n ∷ ns) (suc i) d lt distinct =
    let apart = other_key (address (get_or ns i d).0) (address n.0) (other_at (λ y. bytes_eq (address n.0) y ≡ false) ns i d (omega arith) distinct.0) in
    ap (λ b. cond b (Some n.1) (find key_cmp (address (get_or ns i d).0) (map name_pair (take i ns)))) apart ∙ not_before ns i d (omega arith) distinct.1

-- one more name
pub names_more : (ns : Given) (i : ℕ) (n : Address × ℕ) → i < length ns → n ≡ get_or ns i n → IsDistinct bytes_eq (map (λ n. address n.0) ns)
    → names_of (take (i + 1) ns) ≡ insert (names_of (take i ns)) (address n.0) n.1
names_more ns i n lt is distinct =
    let none : find key_cmp (address n.0) (map name_pair (take i ns)) ≡ None = subst (λ (m : Address × ℕ). find key_cmp (address m.0) (map name_pair (take i ns)) ≡ None) (sym is) (not_before ns i n lt distinct) in
    ap (λ (es : NameList). from_entries {R = key_cmp} es) (ap (map name_pair) (take_more ns i n lt ∙ ap (λ (m : Address × ℕ). take i ns ++ m ∷ []) (sym is)) ∙ map_push name_pair (take i ns) n)
    ∙ finmap.from_entries_push nat_list_cmp_total key_cmp_same (map name_pair (take i ns)) (address n.0) n.1 none

-- ---- a state

-- a state with one more name is one
pub state_more : (s : InitState) (name : List ℕ) → IsInitState s → s.next + 1 < 2 ^ 63 → is_name name ≡ true → IsInitState (with_name s name)
state_more s name is small named = record {
  names = AreNames-insert s.names name s.next is.names named is.next;
  next = small;
  length = is.length;
  network = is.network;
}

-- what stands for a state that is made
pub made_stands : (kept : KeptNames) (blocks : List BlockParts) (s : InitState) → hamt.Stands kept.tree blocks (named s.names) → AreNames s.names → kept.next ≡ s.next → s.next < 2 ^ 63 → kept.network ≡ s.network → IsText s.network → Stands kept blocks s
unfolding Stands
made_stands kept blocks s tree names next small network text = (tree, next, network, record { names = names; next = small; length = text.0; network = text.1 })
