pub mod Packed
pub mod Spread
pub mod Viewed
pub mod WholeOctets
pub mod Parts
pub mod FieldLists
pub mod Laws
