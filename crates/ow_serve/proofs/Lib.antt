pub mod Begun
pub mod Crossing
pub mod Seating
pub mod Turning
pub mod Whole
pub mod Unopened
