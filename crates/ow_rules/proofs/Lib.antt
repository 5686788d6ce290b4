pub mod FireLaws
pub mod JoinLaws
