pub mod Putting
pub mod Room
pub mod Removals
pub mod Sums
pub mod EventLaws
pub mod OrderLaws
pub mod WithinLaws
pub mod CandidateLaws
