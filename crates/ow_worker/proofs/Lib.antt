pub mod Earlier
pub mod Carried
pub mod Slots
