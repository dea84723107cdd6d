pub mod Ascending
pub mod Forms
pub mod OnValues
