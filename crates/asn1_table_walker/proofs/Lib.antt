mod Nodes
mod ListTurns
mod ChoiceTurns
mod SequenceTurns
mod NotingTurns
mod Looping
pub mod Told
