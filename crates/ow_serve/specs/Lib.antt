pub mod Duties
pub mod Ended
pub mod Peers
pub mod Working
