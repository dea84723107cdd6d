pub mod Kinds
pub mod Hashes
pub mod Conversions
pub mod Texts
pub mod Constrained
