pub mod Next
pub mod Anywhere
pub mod Fronts
pub mod Parts
pub mod Sequences
pub mod Bitmaps
pub mod Choices
pub mod Whole
