pub mod Bits
pub mod Octets
pub mod Pairs
