pub mod NewBlocks
pub mod ForEach
pub mod PutNew
mod SetBits
