pub mod Refusal
pub mod Access
pub mod Effective
pub mod Binding
pub mod Fixed
