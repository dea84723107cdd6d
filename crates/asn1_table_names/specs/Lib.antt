pub mod Texts
pub mod Names
pub mod Turns
pub mod Walking
