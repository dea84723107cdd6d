pub mod Tags
pub mod Trees
pub mod Plain
pub mod Same
pub mod Texts
pub mod Places
pub mod Chosen
pub mod Items
