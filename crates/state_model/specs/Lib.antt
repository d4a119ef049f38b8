pub mod State
pub mod StateAt
pub mod Stands
