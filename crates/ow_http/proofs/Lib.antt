pub mod Walk
pub mod BySegments
pub mod ByPart
pub mod Rows
pub mod PlaceFound
pub mod RequestLaws
mod ReadLaws
