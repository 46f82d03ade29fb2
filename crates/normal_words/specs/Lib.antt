pub mod Normal
pub mod Block
