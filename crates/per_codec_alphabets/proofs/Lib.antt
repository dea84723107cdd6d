pub mod Listed
pub mod OneRun
pub mod OctetCodes
pub mod Places
pub mod Sorting
