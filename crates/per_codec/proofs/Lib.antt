pub mod Encoding
mod Leniently
pub mod Messages
mod Once
