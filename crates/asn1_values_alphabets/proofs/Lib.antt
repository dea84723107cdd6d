pub mod Widths
pub mod SingleRuns
pub mod Coded
pub mod Permitted
