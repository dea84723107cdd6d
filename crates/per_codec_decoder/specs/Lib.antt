pub mod Endings
pub mod Held
pub mod Additions
pub mod Missing
pub mod Members
pub mod Scopes
pub mod Preamble
