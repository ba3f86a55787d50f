pub mod Changes
pub mod NotRefused
pub mod Taken
pub mod Targets
