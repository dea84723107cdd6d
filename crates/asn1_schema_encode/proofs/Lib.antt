pub mod Writing
pub mod Listing
pub mod SingleRecords
pub mod Ranges
pub mod Going
pub mod Written
