pub mod Tenants
pub mod Shown
pub mod Steps
pub mod Reasons
pub mod View
pub mod Reading
pub mod Acts
pub mod Named
