pub mod Residues
pub mod Table
pub mod Draws
