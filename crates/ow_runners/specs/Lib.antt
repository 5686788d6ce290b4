pub mod Equality
pub mod Plain
pub mod PlainReply
pub mod Program
