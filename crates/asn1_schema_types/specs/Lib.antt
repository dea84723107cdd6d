pub mod Constrained
pub mod Counts
pub mod Lists
pub mod Told
pub mod Versions
