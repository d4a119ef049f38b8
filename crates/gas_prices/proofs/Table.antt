-- The rule of the prices, proved once over the table.
use Rattle.std.proofs.Common.{◌≡◌, ℕ, zero, suc, ◌+◌, ◌<◌, ◌≤◌, List, [], ◌∷◌, length, get_or, refl, sym, ap, ◌∙◌, subst, inl, inr, arith, rules}
use Rattle.std.proofs.lemmas.Bool.{cases_lt}
use Rattle.gas_prices.specs.declared.price.TheConstants.{TABLE, PRICE_COUNT, GREATEST_PRICE}
use Rattle.gas_prices.specs.declared.price.Price.{Price}
use Rattle.gas_prices.specs.declared.price.Price.TheVariants.{Include, IncludeByte, ReturnByte, Call, Transfer, Create, Load, LoadByte, Page, Plain, MulDiv, Branch, Invoke, Access, Grow, Bulk, BulkByte, Syscall, SyscallByte, OpenBlock, Link, HashByte, Native}
use Rattle.gas_prices.specs.Prices.{number_of, least_of, IsInRange}

-- the prices of the rows have the numbers from n on, and each row has the least that its price may be
abbrev pub AreRows : ℕ → List (Price × ℕ) → Type 0
AreRows n [] = Unit {0}
AreRows n (row ∷ rows) = (number_of row.0 ≡ n) × (least_of row.0 ≡ row.1) × AreRows (suc n) rows

pub row_found : (rows : List (Price × ℕ)) (n i : ℕ) (d : Price × ℕ) → AreRows n rows → i < length rows → (number_of (get_or rows i d).0 ≡ n + i) × (least_of (get_or rows i d).0 ≡ (get_or rows i d).1)
row_found [] n i d are within = absurd (omega arith)
row_found (row ∷ rows) n zero d are within = (omega (arith, are.0), are.1)
row_found (row ∷ rows) n (suc i) d are within =
    let found = row_found rows (suc n) i d are.2 (omega arith) in
    (omega (arith, found.0), found.1)

pub table_row : (i : ℕ) (d : Price × ℕ) → i < PRICE_COUNT → (number_of (get_or TABLE i d).0 ≡ i) × (least_of (get_or TABLE i d).0 ≡ (get_or TABLE i d).1)
table_row i d within =
    let found = row_found TABLE 0 i d (search rules) within in
    (omega (arith, found.0), found.1)

-- the price of a number
abbrev price_at : ℕ → Price
price_at n = (get_or TABLE n (Include, 0)).0

price_at-number_of : (price : Price) → price_at (number_of price) ≡ price
price_at-number_of Include = refl
price_at-number_of IncludeByte = refl
price_at-number_of ReturnByte = refl
price_at-number_of Call = refl
price_at-number_of Transfer = refl
price_at-number_of Create = refl
price_at-number_of Load = refl
price_at-number_of LoadByte = refl
price_at-number_of Page = refl
price_at-number_of Plain = refl
price_at-number_of MulDiv = refl
price_at-number_of Branch = refl
price_at-number_of Invoke = refl
price_at-number_of Access = refl
price_at-number_of Grow = refl
price_at-number_of Bulk = refl
price_at-number_of BulkByte = refl
price_at-number_of Syscall = refl
price_at-number_of SyscallByte = refl
price_at-number_of OpenBlock = refl
price_at-number_of Link = refl
price_at-number_of HashByte = refl
price_at-number_of Native = refl

pub same_price : (p q : Price) → number_of p ≡ number_of q → p ≡ q
same_price p q same = sym (price_at-number_of p) ∙ (ap price_at same ∙ price_at-number_of q)

pub row_bounds : (price : Price) → (number_of price < PRICE_COUNT) × (least_of price ≤ 1)
row_bounds Include = (omega arith, omega arith)
row_bounds IncludeByte = (omega arith, omega arith)
row_bounds ReturnByte = (omega arith, omega arith)
row_bounds Call = (omega arith, omega arith)
row_bounds Transfer = (omega arith, omega arith)
row_bounds Create = (omega arith, omega arith)
row_bounds Load = (omega arith, omega arith)
row_bounds LoadByte = (omega arith, omega arith)
row_bounds Page = (omega arith, omega arith)
row_bounds Plain = (omega arith, omega arith)
row_bounds MulDiv = (omega arith, omega arith)
row_bounds Branch = (omega arith, omega arith)
row_bounds Invoke = (omega arith, omega arith)
row_bounds Access = (omega arith, omega arith)
row_bounds Grow = (omega arith, omega arith)
row_bounds Bulk = (omega arith, omega arith)
row_bounds BulkByte = (omega arith, omega arith)
row_bounds Syscall = (omega arith, omega arith)
row_bounds SyscallByte = (omega arith, omega arith)
row_bounds OpenBlock = (omega arith, omega arith)
row_bounds Link = (omega arith, omega arith)
row_bounds HashByte = (omega arith, omega arith)
row_bounds Native = (omega arith, omega arith)

in_range_at : (prices : List ℕ) (i : ℕ) (price : Price) (least : ℕ) → number_of price ≡ i → least_of price ≡ least → least ≤ get_or prices i 0 → get_or prices i 0 ≤ GREATEST_PRICE → IsInRange prices price
in_range_at prices i price least number_is least_is low high =
    let at : get_or prices (number_of price) 0 ≡ get_or prices i 0 = ap (λ (n : ℕ). get_or prices n 0) number_is in
    record { least = omega (arith, at); greatest = omega (arith, at) }

-- one more price is in range
pub in_range_more : (prices : List ℕ) (i : ℕ) (price : Price) (least : ℕ) → ((other : Price) → number_of other < i → IsInRange prices other) → number_of price ≡ i → least_of price ≡ least → least ≤ get_or prices i 0 → get_or prices i 0 ≤ GREATEST_PRICE → (other : Price) → number_of other < i + 1 → IsInRange prices other
in_range_more prices i price least before number_is least_is low high other below = elim (cases_lt (number_of other) i) [
  | inl lower ↦ before other lower
  | inr here ↦
      let same : price ≡ other = same_price price other (omega arith) in
      subst (λ (p : Price). IsInRange prices p) same (in_range_at prices i price least number_is least_is low high)
]
