pub mod Numbers
pub mod Padded
pub mod Ordered
pub mod Ranges
pub mod OerOctets
pub mod Written
