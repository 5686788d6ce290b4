pub mod Keys
pub mod Taking
