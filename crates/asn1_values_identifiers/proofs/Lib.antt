pub mod Sevens
pub mod Counts
pub mod Readings
pub mod Whole
pub mod Begins
