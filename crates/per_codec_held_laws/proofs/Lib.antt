pub mod Finds
pub mod Lifting
pub mod Carried
