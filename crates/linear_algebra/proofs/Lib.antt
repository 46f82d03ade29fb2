pub mod Algebra
pub mod Elimination
pub mod ModField
pub mod Unique
pub mod Dependent
