pub mod Columns
pub mod Pushed
