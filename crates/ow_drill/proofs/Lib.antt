pub mod Adding
pub mod Going
pub mod Telling
