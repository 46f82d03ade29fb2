pub mod Contested
pub mod Elements
pub mod Laws
