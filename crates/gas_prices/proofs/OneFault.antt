-- Numbers have one fault at most, and a list of prices has none.
use Rattle.std.proofs.Common.{◌≡◌, ℕ, ◌<◌, List, get_or, sym, ap, ◌∙◌, inl, inr, arith}
use Rattle.std.proofs.lemmas.Bool.{cases_order}
use Rattle.gas_prices.specs.declared.price.TheConstants.{GREATEST_PRICE}
use Rattle.gas_prices.specs.declared.price.Price.{Price}
use Rattle.gas_prices.specs.declared.price_fault.PriceFault.{PriceFault}
use Rattle.gas_prices.specs.declared.price_fault.PriceFault.TheVariants.{Count, Zero, TooHigh}
use Rattle.gas_prices.specs.Prices.{number_of, least_of, IsInRange, IsPriceList, IsInRangeBefore, IsPriceFault}
use Rattle.gas_prices.proofs.Table.{row_bounds}

too_low : (prices : List ℕ) (at : ℕ) (price : Price) → number_of price ≡ at → get_or prices at 0 < least_of price → IsInRange prices price → ⊥
too_low prices at price number_is low in_range = omega (arith, in_range.least, ap (λ (n : ℕ). get_or prices n 0) number_is)

too_high : (prices : List ℕ) (at : ℕ) (price : Price) → number_of price ≡ at → GREATEST_PRICE < get_or prices at 0 → IsInRange prices price → ⊥
too_high prices at price number_is high in_range = omega (arith, in_range.greatest, ap (λ (n : ℕ). get_or prices n 0) number_is)

pub no_fault : (prices : List ℕ) (fault : PriceFault) → IsPriceFault prices fault → IsPriceList prices → ⊥
no_fault prices (Count n) is whole = is.1 (sym is.0 ∙ whole.count)
no_fault prices (Zero at) is whole = too_low prices at is.0 is.1 is.3 (whole.in_range is.0)
no_fault prices (TooHigh at) is whole = too_high prices at is.0 is.1 is.3 (whole.in_range is.0)

same_first : (prices : List ℕ) (p q : Price) → IsInRangeBefore prices p → IsInRangeBefore prices q → (IsInRange prices p → ⊥) → (IsInRange prices q → ⊥) → number_of p ≡ number_of q
same_first prices p q first_p first_q out_p out_q = elim (cases_order (number_of p) (number_of q)) [
  | inl same ↦ same
  | inr (inl p_lower) ↦ absurd (out_p (first_q.before p p_lower))
  | inr (inr q_lower) ↦ absurd (out_q (first_p.before q q_lower))
]

-- no number is both too low and too high
not_both : (prices : List ℕ) (i j : ℕ) → IsPriceFault prices (Zero i) → IsPriceFault prices (TooHigh j) → ⊥
not_both prices i j low high =
    let same = same_first prices low.0 high.0 low.2 high.2 (too_low prices i low.0 low.1 low.3) (too_high prices j high.0 high.1 high.3) in
    let here : get_or prices i 0 ≡ get_or prices j 0 = ap (λ (n : ℕ). get_or prices n 0) (sym low.1 ∙ (same ∙ high.1)) in
    omega (arith, here, low.3, high.3, (row_bounds low.0).1)

pub one_fault : (prices : List ℕ) (f g : PriceFault) → IsPriceFault prices f → IsPriceFault prices g → f ≡ g
one_fault prices (Count m) (Count n) f g = ap Count (sym f.0 ∙ g.0)
one_fault prices (Count m) (Zero at) f g = absurd (f.1 (sym f.0 ∙ g.2.count))
one_fault prices (Count m) (TooHigh at) f g = absurd (f.1 (sym f.0 ∙ g.2.count))
one_fault prices (Zero at) (Count n) f g = absurd (g.1 (sym g.0 ∙ f.2.count))
one_fault prices (TooHigh at) (Count n) f g = absurd (g.1 (sym g.0 ∙ f.2.count))
one_fault prices (Zero i) (Zero j) f g =
    let same = same_first prices f.0 g.0 f.2 g.2 (too_low prices i f.0 f.1 f.3) (too_low prices j g.0 g.1 g.3) in
    ap Zero (sym f.1 ∙ (same ∙ g.1))
one_fault prices (TooHigh i) (TooHigh j) f g =
    let same = same_first prices f.0 g.0 f.2 g.2 (too_high prices i f.0 f.1 f.3) (too_high prices j g.0 g.1 g.3) in
    ap TooHigh (sym f.1 ∙ (same ∙ g.1))
one_fault prices (Zero i) (TooHigh j) f g = absurd (not_both prices i j f g)
one_fault prices (TooHigh i) (Zero j) f g = absurd (not_both prices j i g f)
