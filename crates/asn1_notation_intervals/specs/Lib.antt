pub mod Ends
pub mod Order
pub mod Sets
