pub mod Accepting
pub mod Blame
pub mod CrewView
pub mod Runs
pub mod Slots
