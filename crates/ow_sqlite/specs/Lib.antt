pub mod Commit
pub mod Faults
pub mod Load
pub mod Statements
pub mod Through
