pub mod EarlierOctets
pub mod Told
pub mod Writes
pub mod Written
