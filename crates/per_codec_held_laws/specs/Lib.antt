pub mod Held
pub mod Few
