pub mod ActorPairs
pub mod Actors
pub mod ActorsTree
pub mod Over
pub mod Reading
pub mod Stands
