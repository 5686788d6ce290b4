pub mod Tables
pub mod Asking
pub mod Countable
pub mod Endings
pub mod Opening
pub mod Refusing
pub mod Deploying
pub mod Manifests
