pub mod Encoded
pub mod Messages
