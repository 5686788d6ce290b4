pub mod Chain
pub mod Extent
pub mod Parts
pub mod Others
pub mod Lists
pub mod Bytes
pub mod Stated
