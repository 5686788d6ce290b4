pub mod Parts
pub mod Readiness
pub mod Shelf
pub mod Turns
