pub mod Enumerations
pub mod Insertions
pub mod Ordering
pub mod Tags
