pub mod Form0Text
pub mod Text
