pub mod Laws
pub mod Media
pub mod Params
pub mod Refusal
pub mod Shown
pub mod Target
pub mod WebIn
pub mod WebOut
