pub mod Each
pub mod Advancing
pub mod Answering
pub mod Stepping
pub mod Coming
pub mod Following
pub mod Sweeping
pub mod Children
