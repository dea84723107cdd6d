pub mod Deciding
pub mod Scalars
pub mod Composed
pub mod Values
pub mod EqualBags
pub mod ReducedSteps
