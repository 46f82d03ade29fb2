pub mod Terms
pub mod Poly
pub mod Degrees
pub mod ElementLaws
