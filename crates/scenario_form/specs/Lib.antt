pub mod Parts
pub mod Spelled
pub mod Reading
pub mod Judging
pub mod Room
pub mod Answer
pub mod Outlines
pub mod Judged
