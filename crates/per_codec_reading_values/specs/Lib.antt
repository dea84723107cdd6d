pub mod Integers
pub mod Indices
pub mod Fields
pub mod Stretches
pub mod CharacterCodes
pub mod CharacterStrings
pub mod Bitmaps
