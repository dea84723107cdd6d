pub mod Scopes
pub mod Refusals
pub mod Preamble
pub mod Members
pub mod Missing
