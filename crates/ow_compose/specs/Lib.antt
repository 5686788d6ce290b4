pub mod Conductor
pub mod Laws
pub mod Refusal
pub mod Sequence
pub mod Step
