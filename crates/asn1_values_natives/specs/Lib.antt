pub mod Octets
pub mod Ranges
pub mod Forms
