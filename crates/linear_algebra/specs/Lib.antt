pub mod Fields
pub mod Spans
pub mod Echelon
pub mod Dependence
pub mod Mod
pub mod Laws
