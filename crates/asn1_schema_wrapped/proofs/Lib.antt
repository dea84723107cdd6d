pub mod Renamed
pub mod Sorted
