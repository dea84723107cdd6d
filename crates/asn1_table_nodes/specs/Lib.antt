pub mod Values
pub mod Meaning
pub mod Defaults
pub mod Listed
pub mod Reduced
pub mod Sameness
