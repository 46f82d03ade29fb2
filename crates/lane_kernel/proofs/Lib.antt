pub mod Shoup
pub mod LaneLists
pub mod Blocks
