pub mod Tokens
pub mod Scan
pub mod Grammar
pub mod Meaning
pub mod Walk
pub mod Answers
pub mod Gathering
pub mod Elements
