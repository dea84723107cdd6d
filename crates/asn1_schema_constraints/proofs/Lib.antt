pub mod SetLaws
pub mod Orders
pub mod Meets
pub mod Common
pub mod WidthLaws
pub mod Held
pub mod ByNumber
