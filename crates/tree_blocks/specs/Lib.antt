pub mod NewBlocks
pub mod Forms
pub mod Judging
