pub mod Fronts
pub mod Lengths
pub mod Units
pub mod Runs
pub mod Headings
pub mod Closed
pub mod Unread
pub mod Octets
