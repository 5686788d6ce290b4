pub mod Sorted
pub mod Bytes
pub mod Lists
pub mod Item
pub mod Laws
pub mod Tokens
pub mod Unchanged
