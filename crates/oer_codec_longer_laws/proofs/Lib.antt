pub mod Behind
pub mod Steps
pub mod Chained
pub mod Empty
pub mod Lacking
pub mod Lengths
pub mod Few
pub mod Levelled
