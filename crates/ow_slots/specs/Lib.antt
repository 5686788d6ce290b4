pub mod Key
pub mod State
pub mod Slots
