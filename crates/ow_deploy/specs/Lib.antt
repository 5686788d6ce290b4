pub mod Refusal
pub mod Values
pub mod Entries
pub mod EntryView
pub mod Manifest
