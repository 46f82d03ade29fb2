pub mod Closed
pub mod Columns
pub mod Walk
pub mod Packing
pub mod Numbers
pub mod Orders
pub mod PackedWords
pub mod Tails
