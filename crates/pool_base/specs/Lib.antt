pub mod HoldCounts
pub mod Padded
pub mod Paired
