pub mod RowSpans
pub mod Forms
pub mod Chosen
pub mod ProductRows
pub mod Degree
