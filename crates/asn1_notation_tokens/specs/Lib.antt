pub mod Words
pub mod Spans
pub mod Lexical
pub mod Positions
