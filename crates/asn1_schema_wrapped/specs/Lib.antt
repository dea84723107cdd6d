pub mod Instances
pub mod Equality
pub mod Hashes
pub mod Meaning
pub mod Sizes
