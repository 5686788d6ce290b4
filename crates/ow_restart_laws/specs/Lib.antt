pub mod Lasting
pub mod RowsKept
pub mod Bodies
pub mod Laws
pub mod Deployments
