pub mod Author
