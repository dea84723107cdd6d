pub mod More
pub mod Laws
pub mod Few
