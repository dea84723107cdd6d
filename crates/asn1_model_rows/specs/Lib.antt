pub mod Rows
pub mod ReadingRows
