pub mod Cells
pub mod Events
pub mod Shares
pub mod Law
pub mod Workers
pub mod WorkerFields
pub mod RaceFields
pub mod Finished
