pub mod NameLaws
pub mod OrderLaws
pub mod PathLaws
