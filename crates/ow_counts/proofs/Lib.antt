pub mod Counting
pub mod Keeping
pub mod Moving
pub mod Noting
pub mod Rooms
