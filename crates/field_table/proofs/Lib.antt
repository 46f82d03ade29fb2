pub mod Inverses
pub mod Listed
pub mod Multiples
