pub mod Counts
pub mod Refusal
pub mod View
pub mod Within
