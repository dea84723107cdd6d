pub mod Additions
pub mod Slots
