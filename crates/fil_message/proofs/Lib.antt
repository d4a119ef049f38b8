pub mod ByteCounts
pub mod FieldLaws
pub mod Form0Laws
pub mod MessageLaws
pub mod Order
pub mod Plain
pub mod ReadSteps
pub mod Values
