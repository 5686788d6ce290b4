pub mod Changes
pub mod KeyLaws
pub mod Offers
