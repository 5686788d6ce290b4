pub mod Counting
pub mod Loading
pub mod Making
pub mod Reading
pub mod Stopping
