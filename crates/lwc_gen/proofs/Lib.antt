pub mod Added
pub mod Gathered
pub mod Images
pub mod Lines
pub mod Served
