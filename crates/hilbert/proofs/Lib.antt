pub mod Indexed
pub mod Coefficients
pub mod Steps
