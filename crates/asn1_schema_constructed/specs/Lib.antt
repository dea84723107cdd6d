pub mod Constructed
pub mod Fields
pub mod Sets
pub mod Bags
pub mod Tables
pub mod Recursive
pub mod Chosen
pub mod Tagged
