pub mod Orders
pub mod Flaws
pub mod Tables
pub mod Choices
pub mod Forms
