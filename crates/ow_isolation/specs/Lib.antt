pub mod Views
pub mod Reads
pub mod Lists
pub mod Unseen
pub mod Archived
pub mod Causes
pub mod Beginnings
