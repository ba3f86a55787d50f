pub mod Outputs
pub mod Walks
