pub mod QueueLaws
pub mod RowsLaws
pub mod TextLaws
pub mod WindowLaws
pub mod SizedLaws
pub mod HomeLaws
