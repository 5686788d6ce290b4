pub mod Drill
pub mod Drilled
pub mod Counting
