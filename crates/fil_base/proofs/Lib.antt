pub mod Base32Text
pub mod Cids
pub mod Magnitude
pub mod Regroups
pub mod Varints
