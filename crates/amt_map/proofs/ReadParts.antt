-- The parts of a root.
use Rattle.std.proofs.Common.{◌≡◌, ℕ, Option, Some, None, Bool, true, false, cond, ◌≤◌, nat_le, if◌then◌else◌, refl, sym, subst, ap}
use Rattle.std.proofs.lemmas.Bool.{leb-true}
use Rattle.dag_cbor.specs.declared.value.Value.{Value, out-Value}
use Rattle.tree_blocks.specs.Forms.{if_some}
use Rattle.tree_blocks.proofs.ForEach.{if_some_gives}
use Rattle.amt_map.specs.Walk.{Three, number_in, root_parts, three_in}

some_is : {A : Type 0} (x y : A) → Some x ≡ Some y → x ≡ y
some_is x y e = cc

root_gives : (value : Value) (height : ℕ) (node : Value) → Some (height, node) ≡ root_parts value → (three : Three) × (three_in value ≡ Some three) × (three.third ≡ node) × (height ≤ 19)
root_gives value height node e =
    let last : Three → ℕ → ℕ → Option (ℕ × Value) = λ three height count. if nat_le height 19 then Some (height, three.third) else None in
    let three = if_some_gives (three_in value) (λ three. if_some (number_in (out-Value three.first)) (λ height. if_some (number_in (out-Value three.second)) (last three height))) (height, node) (sym e) in
    let tall = if_some_gives (number_in (out-Value three.0.first)) (λ height. if_some (number_in (out-Value three.0.second)) (last three.0 height)) (height, node) three.2 in
    let count = if_some_gives (number_in (out-Value three.0.second)) (last three.0 tall.0) (height, node) tall.2 in
    let low = within tall.0 three.0.third height node count.2 in
    (three.0, three.1, low.0, low.1) where
      by : (b : Bool) (h : ℕ) (x : Value) (height : ℕ) (node : Value) → nat_le h 19 ≡ b → cond {A = Option (ℕ × Value)} b (Some (h, x)) None ≡ Some (height, node) → (x ≡ node) × (height ≤ 19)
      by true h x height node passed e =
          let both : (h, x) ≡ (height, node) = some_is (h, x) (height, node) e in
          (ap (λ (p : ℕ × Value). p.1) both, subst (λ (n : ℕ). n ≤ 19) (ap (λ (p : ℕ × Value). p.0) both) (leb-true h 19 passed))
      by false h x height node passed e = cc

      within : (h : ℕ) (x : Value) (height : ℕ) (node : Value) → cond {A = Option (ℕ × Value)} (nat_le h 19) (Some (h, x)) None ≡ Some (height, node) → (x ≡ node) × (height ≤ 19)
      within h x height node e = by (nat_le h 19) h x height node refl e

pub root_low : (value : Value) (height : ℕ) (node : Value) → Some (height, node) ≡ root_parts value → height ≤ 19
root_low value height node e = (root_gives value height node e).3
