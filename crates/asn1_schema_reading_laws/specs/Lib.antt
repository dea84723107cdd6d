pub mod PresenceBits
pub mod Bags
pub mod Fitting
