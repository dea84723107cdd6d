pub mod Alphabets
pub mod Bounds
pub mod Constraints
