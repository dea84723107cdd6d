pub mod Writes
pub mod Reads
pub mod Shapes
pub mod ChoiceShapes
pub mod Groups
