pub mod Refusal
pub mod Name
pub mod FullName
pub mod Slash
pub mod Path
pub mod Cut
