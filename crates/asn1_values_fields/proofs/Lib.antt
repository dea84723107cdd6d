pub mod Appending
pub mod Shortest
pub mod Chains
pub mod ReadBack
