mod Filters
pub mod SeenLaws
mod BehindLaws
mod ReadLaws
mod RecordLaws
mod NamedLaws
