pub mod Tests
mod Emptied
