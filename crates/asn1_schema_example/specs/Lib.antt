pub mod Chain
pub mod Numbers
pub mod Tree
