-- The three items of a list of three.
use Rattle.std.proofs.Common.{◌≡◌, ℕ, List, [], ◌∷◌, ◌++◌, length, map, Option, Some, refl, sym, ap, subst, ◌∙◌, arith, append-nil}
use Rattle.std.specs.List.{AllByRecursion}
use Rattle.dag_cbor.specs.Plain.{IsPlain}
use Rattle.dag_cbor.specs.Spelling.{joined, spelled}
use Rattle.dag_cbor.specs.declared.value.Value.{Value, out-Value}
use Rattle.dag_cbor.proofs.Equations.{IsPlain-List}
use Rattle.tree_blocks.specs.Forms.{if_some, items_in}
use Rattle.amt_map.specs.ValueBytes.{IsOneList, the_items, the_value}
use Rattle.amt_map.specs.Walk.{three_in, three_of}
use Rattle.amt_map.proofs.Depths.{one_deeper}
use Rattle.amt_map.proofs.OneValue.{the_plain, the_value_is}

pub items_plain : (list : List ℕ) → IsOneList list → AllByRecursion (IsPlain 127) (the_items list)
items_plain list is = (subst (λ (P : Type 0). P) (IsPlain-List 127 (the_items list)) (subst (IsPlain 128) is.list (the_plain list is.one))).1

-- three items, and their spellings
pub record AreThree (list bytes : List ℕ) : Type 0 where
  pub x : Value
  pub y : Value
  pub z : Value
  pub are : the_items list ≡ x ∷ y ∷ z ∷ []
  pub plain_x : IsPlain 128 x
  pub plain_y : IsPlain 128 y
  pub plain_z : IsPlain 128 z
  pub bytes_are : bytes ≡ spelled x ++ (spelled y ++ spelled z)

pub three_items : (list bytes : List ℕ) (count : ℕ) → IsOneList list → count ≡ length (the_items list) → bytes ≡ joined (map spelled (the_items list)) → count ≡ 3 → AreThree list bytes
three_items list bytes count is count_is bytes_are three = by (the_items list) refl (items_plain list is) (sym count_is ∙ three) where
  by : (items : List Value) → the_items list ≡ items → AllByRecursion (IsPlain 127) items → length items ≡ 3 → AreThree list bytes
  by [] are plain n = absurd (omega (arith, n))
  by (x ∷ []) are plain n = absurd (omega (arith, n))
  by (x ∷ y ∷ []) are plain n = absurd (omega (arith, n))
  by (x ∷ y ∷ z ∷ []) are plain n = record {
    x = x;
    y = y;
    z = z;
    are = are;
    plain_x = one_deeper 127 x plain.0;
    plain_y = one_deeper 127 y plain.1.0;
    plain_z = one_deeper 127 z plain.1.1.0;
    bytes_are = bytes_are ∙ ap (λ (xs : List Value). joined (map spelled xs)) are ∙ ap (λ (t : List ℕ). spelled x ++ (spelled y ++ t)) (append-nil (spelled z));
  }
  by (x ∷ y ∷ z ∷ w ∷ more) are plain n = absurd (omega (arith, n))

pub three_found : (value list bytes a b c : List ℕ) → Some (the_items list) ≡ items_in (out-Value (the_value value)) → (three : AreThree list bytes) → a ≡ spelled three.x → b ≡ spelled three.y → c ≡ spelled three.z
    → Some (record { first = the_value a; second = the_value b; third = the_value c }) ≡ three_in (the_value value)
three_found value list bytes a b c read three is_a is_b is_c =
    (λ i. Some (record { first = the_value_is a three.x three.plain_x is_a i; second = the_value_is b three.y three.plain_y is_b i; third = the_value_is c three.z three.plain_z is_c i }))
    ∙ sym (ap (λ (o : Option (List Value)). if_some o three_of) (sym read) ∙ ap three_of three.are)
