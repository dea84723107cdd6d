pub mod Kept
pub mod Unread
pub mod Appending
pub mod Octets
pub mod BitStr
pub mod BitOrder
pub mod BitWindow
