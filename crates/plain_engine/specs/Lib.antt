pub mod Products
pub mod Spans
pub mod Elements
