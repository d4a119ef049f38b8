pub mod CallPlan
pub mod Causes
pub mod SinkState
pub mod SourceState
pub mod Sure
pub mod WithFaults
