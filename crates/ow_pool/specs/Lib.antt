pub mod Candidates
pub mod Four
pub mod Rules
pub mod Keeping
pub mod Within
