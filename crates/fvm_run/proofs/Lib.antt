pub mod Known
pub mod Moves
pub mod Ends
pub mod States
pub mod Loaded
pub mod OneAnswer
