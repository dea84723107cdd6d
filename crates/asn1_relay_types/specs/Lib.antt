pub mod Schemas
pub mod Defaults
pub mod Nest
