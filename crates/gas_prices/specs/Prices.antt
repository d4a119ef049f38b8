-- The prices: their numbers, and what they may be.
use Rattle.std.specs.Prelude.{◌≡◌, ◌≢◌, ◌<◌, ◌≤◌, ℕ, List, length, slice_index}
use Rattle.gas_prices.specs.declared.price.TheConstants.{GREATEST_PRICE, PRICE_COUNT}
use Rattle.gas_prices.specs.declared.price.Price.{Price}
use Rattle.gas_prices.specs.declared.price.Price.TheVariants.{Include, IncludeByte, ReturnByte, Call, Transfer, Create, Load, LoadByte, Page, Plain, MulDiv, Branch, Invoke, Access, Grow, Bulk, BulkByte, Syscall, SyscallByte, OpenBlock, Link, HashByte, Native}
use Rattle.gas_prices.specs.declared.price_fault.PriceFault.{PriceFault}
use Rattle.gas_prices.specs.declared.price_fault.PriceFault.TheVariants.{Count, Zero, TooHigh}

-- the number of a price, which is its place in a list of prices, and the least that it may be
abbrev pub row : Price → ℕ × ℕ
row Include = (0, 0)
row IncludeByte = (1, 0)
row ReturnByte = (2, 0)
row Call = (3, 1)
row Transfer = (4, 0)
row Create = (5, 0)
row Load = (6, 0)
row LoadByte = (7, 0)
row Page = (8, 0)
row Plain = (9, 1)
row MulDiv = (10, 1)
row Branch = (11, 1)
row Invoke = (12, 1)
row Access = (13, 1)
row Grow = (14, 1)
row Bulk = (15, 1)
row BulkByte = (16, 0)
row Syscall = (17, 1)
row SyscallByte = (18, 0)
row OpenBlock = (19, 0)
row Link = (20, 0)
row HashByte = (21, 0)
row Native = (22, 0)

-- the number of a price
abbrev pub number_of : Price → ℕ
number_of price = (row price).0

-- the least that a price may be
abbrev pub least_of : Price → ℕ
least_of price = (row price).1

-- the list has a number for the price that the price may be
pub record IsInRange (prices : List ℕ) (price : Price) : Type 0 where
  pub least : least_of price ≤ slice_index prices (number_of price)
  pub greatest : slice_index prices (number_of price) ≤ GREATEST_PRICE

-- a number for each price, all of them in range
pub record IsPriceList (prices : List ℕ) : Type 0 where
  pub count : length prices ≡ PRICE_COUNT
  pub in_range : (price : Price) → IsInRange prices price

-- there is a number for each price, and those of the prices before this one are in range
pub record IsInRangeBefore (prices : List ℕ) (price : Price) : Type 0 where
  pub count : length prices ≡ PRICE_COUNT
  pub before : (other : Price) → number_of other < number_of price → IsInRange prices other

-- why numbers are no list of prices: there are more or fewer, or the first that is out of range is too low, so 0, or
-- too high
abbrev pub IsPriceFault : List ℕ → PriceFault → Type 0
IsPriceFault prices (Count n) = (length prices ≡ n) × (n ≢ PRICE_COUNT)
IsPriceFault prices (Zero at) = (price : Price) × (number_of price ≡ at) × IsInRangeBefore prices price
    × (slice_index prices at < least_of price)
IsPriceFault prices (TooHigh at) = (price : Price) × (number_of price ≡ at) × IsInRangeBefore prices price
    × (GREATEST_PRICE < slice_index prices at)
