pub mod Reads
pub mod Steps
pub mod Messages
pub mod Answers
