pub mod Cells
pub mod Text
