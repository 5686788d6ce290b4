pub mod Asked
pub mod Chatting
pub mod Replied
