pub mod Base
pub mod Index
pub mod Names
pub mod Order
