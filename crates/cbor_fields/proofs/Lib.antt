pub mod Amounts
pub mod ReadBack
