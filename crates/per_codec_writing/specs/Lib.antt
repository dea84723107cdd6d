pub mod Writing
pub mod Units
pub mod Headings
pub mod Members
pub mod Keys
pub mod Indices
pub mod Characters
