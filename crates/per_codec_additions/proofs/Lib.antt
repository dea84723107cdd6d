pub mod AdditionFieldLists
pub mod KeptSlots
