pub mod NamedMaps
pub mod IdValues
mod StateParts
mod Loading
mod MadeNames
mod NameForms
mod FreeNames
pub mod TwoNames
