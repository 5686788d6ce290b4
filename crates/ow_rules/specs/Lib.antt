pub mod Status
pub mod Fired
pub mod Joins
