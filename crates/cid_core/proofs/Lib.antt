pub mod CidTexts
pub mod Digests
