pub mod Groups
pub mod Identifiers
pub mod Texts
