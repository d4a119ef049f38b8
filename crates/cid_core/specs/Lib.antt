pub mod BlockParts
pub mod BlockFault
pub mod CidOf
pub mod CidText
