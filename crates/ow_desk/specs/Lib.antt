pub mod Notes
pub mod Desks
pub mod Fitting
