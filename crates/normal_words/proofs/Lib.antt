pub mod Gathered
pub mod Blocks
pub mod Grown
