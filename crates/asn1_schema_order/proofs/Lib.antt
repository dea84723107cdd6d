pub mod Ascending
mod Leading
mod Placed
mod Spans
