pub mod Matching
pub mod Differing
pub mod Leading
