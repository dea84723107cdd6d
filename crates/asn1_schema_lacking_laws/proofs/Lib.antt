pub mod AtOnce
pub mod Nesting
