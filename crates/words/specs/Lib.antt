pub mod Words
pub mod Names
pub mod Order
pub mod OrderLaws
