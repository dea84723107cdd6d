pub mod Numbering
pub mod Counting
pub mod Rows
