pub mod Numbers
pub mod Putting
pub mod SameLimits
pub mod ItemsRead
pub mod NumbersRead
pub mod Taking
