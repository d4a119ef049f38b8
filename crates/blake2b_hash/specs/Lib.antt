pub mod Tables
pub mod Compression
pub mod Blake
pub mod Chain
pub mod Hasher
