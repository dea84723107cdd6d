pub mod Coded
pub mod Detours
pub mod Trying
pub mod Feeding
pub mod Blocks
pub mod Gives
pub mod Known
pub mod Outcomes
pub mod Canonical
pub mod OlderRelays
mod Strictly
