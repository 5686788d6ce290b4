pub mod Adapters
pub mod Changes
pub mod Keeper
pub mod Prewarms
pub mod Rows
pub mod Runner
pub mod Streams
pub mod Telling
