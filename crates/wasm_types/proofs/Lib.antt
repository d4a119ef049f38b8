pub mod Calls
pub mod Prices
pub mod SameTypes
pub mod Table
pub mod Typings
