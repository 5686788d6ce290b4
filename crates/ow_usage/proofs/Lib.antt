pub mod CellLaws
pub mod TextLaws
