pub mod Came
pub mod CutShort
pub mod ReadsOn
