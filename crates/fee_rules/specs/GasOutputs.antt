-- What a message pays for its gas (Filecoin specification, "Gas Fees"; ref-fvm, "gas outputs").
use Rattle.std.specs.Prelude.{ℕ, ◌+◌, ◌-◌, ◌*◌, ◌/◌, ◌==◌, min, if◌then◌else◌}
use Rattle.fee_rules.specs.declared.fees.Fees.{Fees}

-- the gas that is burned besides the gas used: the whole limit where none was used, else the unused gas, times what the
-- limit is over 11/10 of the gas used (0 if under, the gas used at most), by the gas used
abbrev pub burned_gas : ℕ → ℕ → ℕ
burned_gas used limit = if used == 0 then limit else (limit - used) * min over used / used where
  over : ℕ
  over = limit - 11 * used / 10

-- what the sender pays for a unit of gas besides the tip: the base fee, but at most the fee cap
abbrev pub paid_price : ℕ → ℕ → ℕ
paid_price base cap = min base cap

-- what the miner gets for a unit of the limit: the gas premium, but at most what is left of the fee cap
abbrev pub tip_price : ℕ → ℕ → ℕ → ℕ
tip_price base cap premium = min premium (cap - paid_price base cap)

-- the gas outputs; the miner owes what the base fee is above the price that is paid
abbrev pub gas_outputs : ℕ → ℕ → ℕ → ℕ → ℕ → Fees
gas_outputs used limit base cap premium = record {
  base_burn = pay * used;
  over_burn = pay * burned;
  tip = tip;
  refund = cap * limit - pay * used - pay * burned - tip;
  penalty = (base - pay) * (used + burned);
  burned_gas = burned;
} where
  pay : ℕ
  pay = paid_price base cap

  burned : ℕ
  burned = burned_gas used limit

  tip : ℕ
  tip = tip_price base cap premium * limit
