pub mod Laws
pub mod Padded
pub mod OctetLaws
