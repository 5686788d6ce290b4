pub mod Shown
pub mod Noted
pub mod Parts
pub mod Turned
pub mod Reaped
