pub mod Names
pub mod Reading
pub mod Resolving
pub mod Stands
