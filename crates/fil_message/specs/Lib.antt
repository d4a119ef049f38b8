pub mod Layout
pub mod Sound
pub mod Tipsets
pub mod Readers
pub mod Reading
pub mod Form0Layout
pub mod Form0Sound
pub mod Form0Reading
