pub mod Days
pub mod Laws
pub mod Parse
pub mod Plain
pub mod Status
pub mod Words
