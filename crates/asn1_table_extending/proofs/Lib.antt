pub mod Staying
pub mod Matched
pub mod Refused
pub mod Led
