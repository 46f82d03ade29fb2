pub mod Accounts
pub mod ClaimHistory
pub mod Limits
pub mod Matrix
pub mod Schedule
