pub mod Admitted
pub mod Built
pub mod Steps
