pub mod Container
pub mod Filling
pub mod Lines
pub mod Reading
