-- Steps of loading a state.
use Rattle.std.proofs.Common.{◌≡◌, ℕ, List, ◌∷◌, Bool, true, false, ◌&&◌, Option, Some, None, Ok, Err, refl, sym, ap, ◌∙◌}
use Rattle.std.specs.Prelude.{is_some}
use Rattle.std.proofs.lemmas.Bool.{false≢true}
use Rattle.std.specs.FinMap.{entries, from_entries}
use Rattle.fil_base.specs.CidParts.{CidParts}
use Rattle.fil_base.specs.Failure.{IfFault}
use Rattle.fil_base.specs.declared.failure.Failure.{Failure}
use Rattle.fil_base.specs.declared.failure.Failure.TheVariants.{NoMemory, Fault}
use Rattle.cid_core.specs.BlockParts.{BlockParts}
use Rattle.dag_cbor.specs.declared.value.Value.{Value}
use Rattle.hamt_map.specs.Pairs.{Map}
use Rattle.hamt_map.specs.StateFaults.{of_tree, value_under}
use Rattle.hamt_map.specs.Walk.{hamt_at}
use Rattle.hamt_map.specs.declared.state_fault.StateFault.{StateFault}
use Rattle.hamt_map.specs.declared.state_fault.StateFault.TheVariants.{Form}
use Rattle.tree_blocks.specs.Forms.{for_each, if_some}
use Rattle.init_names.specs.Names.{AreNames, Names, named}
use Rattle.init_names.specs.Reading.{InitParts, init_at, names_under, pair_in, parts_in}
use Rattle.init_names.proofs.IdValues.{names_back}

-- ---- pairs

-- whether each of a list is read, from its first on
pub each_read : {A B : Type 0} (f : A → Option B) (x : A) (xs : List A) → is_some (for_each f (x ∷ xs)) ≡ (is_some (f x) && is_some (for_each f xs))
each_read f x xs = by_both (f x) (for_each f xs) where
  by_both : {B : Type 0} (r : Option B) (rs : Option (List B)) → is_some (if_some r (λ y. if_some rs (λ ys. Some (y ∷ ys)))) ≡ (is_some r && is_some rs)
  by_both None rs = refl
  by_both (Some y) None = refl
  by_both (Some y) (Some ys) = refl

-- ---- the names of a tree

-- each pair of the tree is a name with its ID
pub names_found : (blocks : List BlockParts) (root : CidParts) (m : Map) (are : Bool) → of_tree (hamt_at blocks root) ≡ Ok m → are ≡ is_some (for_each pair_in (entries m)) → are ≡ true
    → (names : Names) × (names_under blocks root ≡ Ok names) × AreNames names × (m ≡ named names)
names_found blocks root m are there is all = by_reading (for_each pair_in (entries m)) refl where
  by_reading : (r : Option (List (List ℕ × ℕ))) → for_each pair_in (entries m) ≡ r → (names : Names) × (names_under blocks root ≡ Ok names) × AreNames names × (m ≡ named names)
  by_reading None e = absurd (false≢true (sym (ap is_some e) ∙ sym is ∙ all))
  by_reading (Some es) e =
      let back = names_back m (from_entries es) (rw e refl) in
      (from_entries es, rw (there, e) refl, back.1, back.0)

-- a pair is none
pub no_names_found : (blocks : List BlockParts) (root : CidParts) (m : Map) (are : Bool) → of_tree (hamt_at blocks root) ≡ Ok m → are ≡ is_some (for_each pair_in (entries m)) → are ≡ false
    → names_under blocks root ≡ Err (Form root)
no_names_found blocks root m are there is none = by_reading (for_each pair_in (entries m)) refl where
  by_reading : (r : Option (List (List ℕ × ℕ))) → for_each pair_in (entries m) ≡ r → names_under blocks root ≡ Err (Form root)
  by_reading None e = rw (there, e) refl
  by_reading (Some es) e = absurd (false≢true (sym none ∙ is ∙ ap is_some e))

-- the tree does not load
pub no_tree_found : (blocks : List BlockParts) (root : CidParts) (fault : StateFault) → of_tree (hamt_at blocks root) ≡ Err fault → names_under blocks root ≡ Err fault
no_tree_found blocks root fault there = rw there refl

-- ---- the state

pub state_found : (blocks : List BlockParts) (head : CidParts) (value : Value) (parts : InitParts) (names : Names) → value_under blocks head ≡ Ok value → parts_in value ≡ Some parts → names_under blocks parts.names ≡ Ok names
    → init_at blocks head ≡ Ok (record { names = names; next = parts.next; network = parts.network })
unfolding init_at
state_found blocks head value parts names there read found = rw (there, read, found) refl

pub no_names : (blocks : List BlockParts) (head : CidParts) (value : Value) (parts : InitParts) (fault : StateFault) → value_under blocks head ≡ Ok value → parts_in value ≡ Some parts → names_under blocks parts.names ≡ Err fault
    → init_at blocks head ≡ Err fault
unfolding init_at
no_names blocks head value parts fault there read found = rw (there, read, found) refl

pub no_parts : (blocks : List BlockParts) (head : CidParts) (value : Value) → value_under blocks head ≡ Ok value → parts_in value ≡ None → init_at blocks head ≡ Err (Form head)
unfolding init_at
no_parts blocks head value there read = rw (there, read) refl

pub no_value : (blocks : List BlockParts) (head : CidParts) (fault : StateFault) → value_under blocks head ≡ Err fault → init_at blocks head ≡ Err fault
unfolding init_at
no_value blocks head fault there = rw there refl

-- ---- faults

-- a fault of one part is that of the whole
pub fault_as : {P Q : StateFault → Type 0} (failure : Failure StateFault) → ((fault : StateFault) → P fault → Q fault) → IfFault failure P → IfFault failure Q
fault_as NoMemory f is = tt
fault_as (Fault fault) f is = f fault is
