pub mod First
pub mod Places
pub mod Numbers
pub mod Drains
pub mod Differs
