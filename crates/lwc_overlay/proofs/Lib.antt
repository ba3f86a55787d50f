pub mod Accepted
pub mod Rest
