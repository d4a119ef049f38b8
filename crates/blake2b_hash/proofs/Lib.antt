pub mod ScheduleLemmas
pub mod ChainLemmas
pub mod DigestFacts
