pub mod Errors
pub mod Orders
