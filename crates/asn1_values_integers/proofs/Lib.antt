pub mod KindLaws
pub mod Orders
pub mod LowBits
