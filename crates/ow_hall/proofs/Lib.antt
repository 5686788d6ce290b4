pub mod Archiving
pub mod Beginnings
pub mod Faults
pub mod KeepLaws
pub mod OpenLaws
pub mod HallLaws
pub mod Joined
mod NoteLaws
mod RoomLaws
pub mod UndoneLaws
pub mod StopLaws
mod PutLaws
mod PlaceLaws
