pub mod Schemas
pub mod Streams
pub mod Tapes
