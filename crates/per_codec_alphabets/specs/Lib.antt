pub mod Codes
pub mod Held
pub mod Listed
pub mod Octets
