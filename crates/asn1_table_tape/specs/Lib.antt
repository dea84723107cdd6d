pub mod Strings
pub mod Terms
pub mod Octets
pub mod Records
pub mod Values
pub mod Replays
