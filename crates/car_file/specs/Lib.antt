pub mod Car
pub mod CarFault
pub mod Frame
pub mod Place
pub mod Reader
pub mod Sections
