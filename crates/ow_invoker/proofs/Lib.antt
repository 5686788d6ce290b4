pub mod Faults
pub mod Orders
pub mod Parts
pub mod Running
pub mod Shelving
pub mod Turning
