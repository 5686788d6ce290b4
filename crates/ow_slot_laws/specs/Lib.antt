pub mod Life
pub mod Fitting
pub mod Laws
pub mod Owed
