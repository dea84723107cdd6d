pub mod Answered
pub mod LineLemmas
pub mod OrderLemmas
