pub mod Crossing
pub mod Behind
