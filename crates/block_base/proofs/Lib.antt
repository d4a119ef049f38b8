pub mod Found
pub mod Indexes
pub mod Ranks
pub mod SortedNames
