pub mod Takes
pub mod Laws
