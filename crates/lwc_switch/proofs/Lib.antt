pub mod Accepted
pub mod Rest
pub mod Saving
