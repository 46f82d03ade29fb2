pub mod Numbers
pub mod Keys
pub mod Values
pub mod Refusals
pub mod JobOf
pub mod Draft
