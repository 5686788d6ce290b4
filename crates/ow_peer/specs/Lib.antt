pub mod Answered
pub mod Talk
