pub mod Counts
pub mod Variants
