pub mod Members
pub mod Weights
pub mod OrderFacts
pub mod Degrees
pub mod NameLists
pub mod Faults
pub mod Factors
pub mod Gathered
