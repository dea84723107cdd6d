pub mod Kept
pub mod Laws
pub mod Taken
pub mod ReadingLaws
