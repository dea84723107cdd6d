pub mod Sizes
pub mod Takes
pub mod Laws
