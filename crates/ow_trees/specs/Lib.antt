pub mod Advance
pub mod Each
pub mod Steps
pub mod Owed
pub mod Driven
pub mod Driving
pub mod Laws
