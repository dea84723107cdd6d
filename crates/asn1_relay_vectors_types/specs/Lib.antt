pub mod Growing
pub mod Unfolding
