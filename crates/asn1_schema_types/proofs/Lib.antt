pub mod ListDefaults
pub mod Ranges
pub mod SequenceDefaults
