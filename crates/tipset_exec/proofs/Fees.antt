-- What a message pays is what was set aside for it.
use Rattle.std.proofs.Common.{◌≡◌, ℕ, ◌+◌, ◌-◌, ◌*◌, ◌/◌, ◌<◌, ◌≤◌, true, false, cond, eqb, inl, inr, min, refl, arith}
use Rattle.std.proofs.Math.Nat.{mul-le-mul_left}
use Rattle.std.proofs.lemmas.Bool.{cases_lt, eqb-false, eqb-true}
use Rattle.fee_rules.specs.GasOutputs.{burned_gas, gas_outputs, paid_price, tip_price}
use Rattle.fee_rules.proofs.Parts.{parts_within}

quotient_within : (x y z : ℕ) → 0 < z → y ≤ z → x * y / z ≤ x
quotient_within x y z some small = elim (cases_lt x (x * y / z)) [
  | inl more ↦
      let least : x + 1 ≤ x * y / z = omega arith in
      absurd (omega (arith, mul-le-mul_left z least, mul-le-mul_left x small))
  | inr fits ↦ fits
]

-- the gas that is burned is of the limit
pub burned_within : (used limit : ℕ) → used ≤ limit → used + burned_gas used limit ≤ limit
burned_within used limit fits =
    let over = limit - 11 * used / 10 in
    elim (eqb used 0) as (λ b. eqb used 0 ≡ b → used + cond b limit ((limit - used) * min over used / used) ≤ limit) [
      | true ↦ λ is. omega (arith, eqb-true used 0 is)
      | false ↦ λ is.
          let some : 0 < used = omega (arith, eqb-false used 0 is) in
          omega (arith, quotient_within (limit - used) (min over used) used some (omega arith))
    ] refl

-- nothing is lost and nothing is made
pub whole_fees : (used limit base cap premium : ℕ) → used ≤ limit
    → ((gas_outputs used limit base cap premium).base_burn + (gas_outputs used limit base cap premium).over_burn)
    + ((gas_outputs used limit base cap premium).tip + (gas_outputs used limit base cap premium).refund) ≡ cap * limit
whole_fees used limit base cap premium fits =
    let pay = paid_price base cap in
    let price = tip_price base cap premium in
    let rest : pay + (cap - pay) ≡ cap = omega arith in
    let part : price ≤ cap - pay = omega arith in
    omega (arith, parts_within pay (cap - pay) cap used (burned_gas used limit) limit price rest (burned_within used limit fits) part)
