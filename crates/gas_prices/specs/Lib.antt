pub mod MeterState
pub mod Prices
