pub mod Served
pub mod Unkept
