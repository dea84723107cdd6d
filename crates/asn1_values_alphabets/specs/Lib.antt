pub mod Codes
pub mod Permitted
pub mod Refusals
