pub mod Kinds
pub mod Orders
pub mod Lines
pub mod Runs
