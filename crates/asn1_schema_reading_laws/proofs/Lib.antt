pub mod Fitting
pub mod PresenceBits
pub mod Alike
pub mod Bitmaps
pub mod Levels
