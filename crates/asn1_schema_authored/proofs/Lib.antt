pub mod Extending
pub mod Writing
pub mod GroupWriting
pub mod Reading
pub mod GroupReading
pub mod Going
pub mod Failing
mod Composing
pub mod Shaping
pub mod ChoiceShaping
pub mod Grouping
pub mod Fields
pub mod Defaults
pub mod Unfolding
