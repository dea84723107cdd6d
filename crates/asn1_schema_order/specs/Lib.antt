pub mod Entries
pub mod LeadingOctets
pub mod Spans
